use Rattle.std.proofs.Common.{◌≡◌, ◌++◌, length}
use Rattle.std.specs.Vec.{vec_capacity}
use Rattle.dispatcher.proofs.sorting.move_all.Given as goal

abbrev pub invariant-loop-reply : goal.invariant-loop-reply
invariant-loop-reply l =
    (l.all.items ++ l.left.items ≡ l.fn.all.items ++ l.fn.replies.items)
    × (vec_capacity l.all ≡ vec_capacity l.fn.all)

abbrev pub decreases-loop-reply : goal.decreases-loop-reply
decreases-loop-reply l = length l.left.items
