-- What contracts say of a board and of its threads.
use Rattle.std.specs.Prelude.{ℕ, ◌+◌}
use Rattle.wake_pool.specs.declared.phase.WakePhase.{WakePhase as Phase}
use Rattle.wake_pool.specs.Words.{base}
use Rattle.wake_calls.specs.declared.rule.ThreadRecord.{ThreadRecord}
use Rattle.tests_lanes.specs.declared.board.BoardSizes.{BoardSizes as Sizes}

-- The number of threads.
abbrev pub thread_count : Sizes → ℕ
thread_count sizes = sizes.workers + sizes.producers

-- The word of a lane.
abbrev pub lane_at : Sizes → ℕ → ℕ
lane_at sizes l = base sizes.workers + l

-- The number of words.
abbrev pub all_words : Sizes → ℕ
all_words sizes = base sizes.workers + sizes.lanes

-- The record of a thread in this phase.
abbrev pub record_of : Sizes → ℕ → Phase → ThreadRecord
record_of sizes number phase =
    record { number = number; phase = phase; workers = sizes.workers; lanes = sizes.lanes }
