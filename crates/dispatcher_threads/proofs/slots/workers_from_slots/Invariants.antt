use Rattle.std.proofs.Common.{◌≡◌, ◌+◌, ◌≤◌, length}
use Rattle.std.specs.List.{All}
use Rattle.std.specs.Vec.{vec_capacity}
use Rattle.dispatcher.specs.Members.{IsEndOf}
use Rattle.dispatcher_threads.proofs.slots.workers_from_slots.Given as goal

abbrev pub invariant-loop-slot : goal.invariant-loop-slot
invariant-loop-slot g l =
    All (IsEndOf g.J.Naming.shop) l.ends.items
    × (length l.worker_slots.items + length l.ends.items ≡ length l.fn.worker_slots.items + length l.fn.ends.items)
    × (length l.fn.worker_slots.items + length l.fn.ends.items ≤ vec_capacity l.ends)

abbrev pub decreases-loop-slot : goal.decreases-loop-slot
decreases-loop-slot g l = length l.worker_slots.items
