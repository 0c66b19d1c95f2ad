use Rattle.std.proofs.Common.{◌≡◌, ◌+◌, ◌≤◌, ◌++◌, map, length}
use Rattle.std.specs.Vec.{vec_len, vec_capacity}
use Rattle.dispatcher.proofs.room.Room.gather.Given as goal

abbrev pub invariant-loop-end : goal.invariant-loop-end
invariant-loop-end g l =
    (l.passes.items ++ map (λ e. e.pass) l.ends.items ≡ map (λ e. e.pass) l.fn.ends.items)
    × (l.stations.items ++ map (λ e. e.station) l.ends.items ≡ map (λ e. e.station) l.fn.ends.items)
    × (l.by_worker.items ++ map (λ e. e.replies) l.ends.items ≡ map (λ e. e.replies) l.fn.ends.items)
    × (vec_len l.passes + length l.ends.items ≤ vec_capacity l.passes)
    × (vec_len l.stations + length l.ends.items ≤ vec_capacity l.stations)
    × (vec_len l.by_worker + length l.ends.items ≤ vec_capacity l.by_worker)

abbrev pub decreases-loop-end : goal.decreases-loop-end
decreases-loop-end g l = length l.ends.items
