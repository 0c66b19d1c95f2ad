use Rattle.std.proofs.Common.{◌≡◌, ℕ, ◌<◌, [], map, length, slice_index_or}
use Rattle.std.specs.List.{All}
use Rattle.job_queue.specs.Line.{IsFor}
use Rattle.cube_bench.proofs.dispatch.lists.jobs_of_all.Given as goal

abbrev pub invariant-loop-lane : goal.invariant-loop-lane
invariant-loop-lane l = (length l.lists.items ≡ l.lane) × ((k : ℕ) → k < length l.lists.items → All (IsFor l.invocation.sizes.dim k) (slice_index_or (map (λ js. js.items) l.lists.items) k []))
