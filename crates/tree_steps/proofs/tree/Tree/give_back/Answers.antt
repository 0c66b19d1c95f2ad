use Rattle.cube_core.specs.declared.phase.Phase.TheVariants.{Leaving}
use Rattle.std.proofs.Common.{◌∙◌}
use Rattle.tree_steps.proofs.EventLemmas.{walks_on}
use Rattle.tree_steps.proofs.WalkLemmas.{station_of_begun}
use Rattle.tree_steps.proofs.tree.Tree.give_back.Goals as goal

pub clear_path-requires-clause-station : goal.clear_path-requires-clause-station
clear_path-requires-clause-station c = station_of_begun (Leaving c.args.node.0) c.args.seat.now.me c.zero_held.ensures.walks ∙ c.requires.station

pub returns-clause-walks : goal.returns-clause-walks
returns-clause-walks c = walks_on c.zero_held.ensures.walks c.clear_path.ensures.walks
