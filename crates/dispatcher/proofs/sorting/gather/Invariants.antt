use Rattle.std.proofs.Common.{◌≡◌, ◌++◌, length, map}
use Rattle.std.specs.Vec.{vec_capacity}
use Rattle.dispatcher.specs.Answers.{all_replies}
use Rattle.dispatcher.proofs.sorting.gather.Given as goal

abbrev pub invariant-loop-replies : goal.invariant-loop-replies
invariant-loop-replies l =
    (l.all.items ++ all_replies (map (λ rs. rs.items) l.left.items) l.rest.items ≡ l.fn.others.items ++ all_replies (map (λ rs. rs.items) l.fn.by_worker.items) l.fn.rest.items)
    × (vec_capacity l.all ≡ vec_capacity l.fn.others)

abbrev pub decreases-loop-replies : goal.decreases-loop-replies
decreases-loop-replies l = length l.left.items
