use Rattle.std.proofs.Common.{◌∙◌}
use Rattle.tree_steps.proofs.EventLemmas.{walks_on}
use Rattle.tree_steps.proofs.WalkLemmas.{station_of_walk}
use Rattle.tree_steps.proofs.tree.Tree.roll_back.Goals as goal

pub clear_path-requires-clause-station : goal.clear_path-requires-clause-station
clear_path-requires-clause-station c = station_of_walk c.zero_back.ensures.walks ∙ c.requires.station

pub returns-clause-walks : goal.returns-clause-walks
returns-clause-walks c = walks_on c.zero_back.ensures.walks c.clear_path.ensures.walks
