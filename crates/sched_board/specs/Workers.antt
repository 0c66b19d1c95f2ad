-- What workers do.
use Rattle.std.specs.Prelude.{◌≡◌, ℕ, ◌<◌, ◌≤◌, List, slice_index_or}
use Rattle.sched_board.specs.declared.workers.PoolWorker.{PoolWorker}
use Rattle.sched_board.specs.declared.workers.PoolWorker.TheVariants.{Away, Waiting}

-- What a worker does. A number that no worker has does nothing.
abbrev pub does : List PoolWorker → ℕ → PoolWorker
does workers u = slice_index_or workers u Away

-- None of the workers from one on and below another waits.
abbrev pub none_waits_in : List PoolWorker → ℕ → ℕ → Type 0
none_waits_in workers from end =
    (u : ℕ) → from ≤ u → u < end → does workers u ≡ Waiting → ⊥
