use Rattle.std.proofs.Common.{◌≡◌, ◌+◌, ◌≤◌, length}
use Rattle.std.specs.List.{All}
use Rattle.std.specs.Vec.{vec_len, vec_capacity}
use Rattle.dispatcher_threads.specs.InnerEnd.{HasEnded}
use Rattle.dispatcher_threads.proofs.slots.slots_for_lanes.Given as goal

abbrev pub invariant-loop-slot : goal.invariant-loop-slot
invariant-loop-slot g l = let line = g.L.JobLine in let shop = g.J.Naming.shop in
    All (λ f. line.is_lane shop.line f.0) l.fed.items
    × All (λ f. HasEnded g.J.Naming.jobs (line.lane_record f.0) f.1) l.fed.items
    × (vec_len l.lane_slots + length l.fed.items + l.idle ≡ length l.fn.lanes.items)
    × (length l.fn.lanes.items ≤ vec_capacity l.fed)

abbrev pub decreases-loop-slot : goal.decreases-loop-slot
decreases-loop-slot g l = l.idle
