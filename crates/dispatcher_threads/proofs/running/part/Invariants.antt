use Rattle.std.proofs.Common.{◌≡◌, ◌+◌, ◌≤◌, ◌++◌, map, length}
use Rattle.std.specs.Vec.{vec_len, vec_capacity}
use Rattle.dispatcher_threads.proofs.running.part.Given as goal

abbrev pub invariant-loop-one : goal.invariant-loop-one
invariant-loop-one g l =
    (l.lanes.items ++ map (λ f. f.0) l.fed.items ≡ map (λ f. f.0) l.fn.fed.items)
    × (l.ends.items ++ map (λ f. f.1) l.fed.items ≡ map (λ f. f.1) l.fn.fed.items)
    × (vec_len l.lanes + length l.fed.items ≤ vec_capacity l.lanes)
    × (vec_len l.ends + length l.fed.items ≤ vec_capacity l.ends)

abbrev pub decreases-loop-one : goal.decreases-loop-one
decreases-loop-one g l = length l.fed.items
