-- The rule of a board's table: the words and the views are a world of threads.
use Rattle.std.specs.Prelude.{◌≡◌, ℕ, List, length, slice_index}
use Rattle.atomic_table.specs.Table.{State}
use Rattle.ghost_history.specs.Lists.{first_of, rest_of, numbered_from}
use Rattle.ghost_history.specs.Views.{Tied}
use Rattle.wake_pool.specs.declared.phase.WakePhase.{WakePhase as Phase}
use Rattle.wake_pool.specs.declared.phase.WakePhase.TheVariants.{Idle}
use Rattle.wake_pool.specs.Inner.Invariant.{IsSound}
use Rattle.wake_pool.specs.Words.{world_of}
use Rattle.wake_calls.specs.declared.rule.ThreadRecord.{ThreadRecord}
use Rattle.tests_lanes.specs.declared.board.BoardSizes.{BoardSizes as Sizes}
use Rattle.tests_lanes.specs.declared.rule.BoardView.{BoardView as View}
use Rattle.tests_lanes.specs.Board.{thread_count, lane_at, all_words, record_of}

abbrev pub St : Type 0
St = State (Unit {0}) View

-- The threads of a view.
abbrev pub threads_in : View → List ThreadRecord
threads_in v = v.threads

-- The number of a thread.
abbrev pub number_of : ThreadRecord → ℕ
number_of r = r.number

-- The view with these threads.
abbrev pub view : List ThreadRecord → View
view rs = record { threads = rs }

-- the count of each lane
abbrev pub jobs_in : Sizes → List ℕ → ℕ → ℕ
jobs_in sizes ws l = slice_index ws (lane_at sizes l)

-- The record of each thread.
abbrev pub recorded : Sizes → (ℕ → Phase) → ℕ → ThreadRecord
recorded sizes phases n = record_of sizes n (phases n)

-- The rule.
pub record Keeps (sizes : Sizes) (s : State (Unit {0}) View) : Type 0 where
  pub phases : ℕ → Phase
  pub long : length s.words ≡ all_words sizes
  pub tied : Tied threads_in number_of (thread_count sizes) (recorded sizes phases) s.views
  pub sound : IsSound (world_of sizes.workers sizes.lanes s.words (jobs_in sizes s.words) phases)

-- the first seat has the records of all threads, and deals them out
abbrev pub first_view : Sizes → View
first_view sizes = view (numbered_from (λ n. record_of sizes n Idle) 0 (thread_count sizes))

-- The view without its first thread.
abbrev pub without_thread : View → View
without_thread v = view (rest_of v.threads)

-- The view of the first thread alone.
abbrev pub thread_alone : View → View
thread_alone v = view (first_of v.threads)
