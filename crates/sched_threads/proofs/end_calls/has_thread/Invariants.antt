-- No worker so far is a thread.
use Rattle.std.proofs.Common.{◌≡◌, ℕ, ◌<◌}
use Rattle.std.specs.List.{slice_index_or}
use Rattle.sched_threads.specs.declared.chair.Chair.TheVariants.{Free}
use Rattle.sched_threads.proofs.end_calls.has_thread.Given as goal

abbrev pub invariant-loop-worker : goal.invariant-loop-worker
invariant-loop-worker l = (u : ℕ) → u < l.worker → slice_index_or l.chairs u Free ≡ Free
