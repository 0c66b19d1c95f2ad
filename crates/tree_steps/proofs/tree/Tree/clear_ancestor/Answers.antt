use Rattle.std.proofs.Common.{◌∙◌}
use Rattle.tree_steps.proofs.EventLemmas.{walks_on}
use Rattle.tree_steps.proofs.WalkLemmas.{station_of_walk}
use Rattle.tree_steps.proofs.tree.Tree.clear_ancestor.Goals as goal

pub mark-requires-clause-station : goal.mark-requires-clause-station
mark-requires-clause-station c = station_of_walk c.unmark.ensures.walks ∙ c.requires.station

pub returns-in_default-clause-walks : goal.returns-in_default-clause-walks
returns-in_default-clause-walks c = walks_on c.unmark.ensures.walks c.mark.ensures.walks

pub returns-clause-walks : goal.returns-clause-walks
returns-clause-walks c =
    walks_on (walks_on (walks_on c.unmark.ensures.walks c.mark.ensures.walks) (walks_on c.look_left-left.ensures.walks c.look_right-right.ensures.walks)) c.clear.ensures.walks
