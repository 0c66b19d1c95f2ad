use Rattle.std.proofs.Common.{◌≡◌, ◌+◌, ◌≤◌, ◌++◌, [], map, length}
use Rattle.std.specs.List.{All}
use Rattle.std.specs.Vec.{vec_len, vec_capacity}
use Rattle.dispatcher.proofs.opening.pair_up.Given as goal

abbrev pub invariant-loop-pass : goal.invariant-loop-pass
invariant-loop-pass g l =
    All (λ p. (g.L.JobLine.pass_record p).taken ≡ []) l.passes.items
    × All (λ s. g.F.Floor.grants s ≡ []) l.stations.items
    × (map (λ w. w.pass) l.workers.items ++ l.passes.items ≡ l.fn.passes.items)
    × (map (λ w. w.station) l.workers.items ++ l.stations.items ≡ l.fn.stations.items)
    × (length l.passes.items ≡ length l.stations.items)
    × (vec_len l.workers + length l.passes.items ≤ vec_capacity l.workers)

abbrev pub decreases-loop-pass : goal.decreases-loop-pass
decreases-loop-pass g l = length l.passes.items
