use Rattle.std.proofs.Common.{◌≡◌, ◌+◌, ◌≤◌, length}
use Rattle.std.specs.List.{All}
use Rattle.std.specs.Vec.{vec_len, vec_capacity}
use Rattle.dispatcher.specs.Members.{IsEndOf}
use Rattle.dispatcher_threads.proofs.slots.slots_for_workers.Given as goal

abbrev pub invariant-loop-slot : goal.invariant-loop-slot
invariant-loop-slot g l =
    All (IsEndOf g.J.Naming.shop) l.ends.items
    × (vec_len l.worker_slots + length l.ends.items + l.idle ≡ length l.fn.workers.items)
    × (length l.fn.workers.items ≤ vec_capacity l.ends)

abbrev pub decreases-loop-slot : goal.decreases-loop-slot
decreases-loop-slot g l = l.idle
