-- The world that the words of a table show, beside the jobs in its lanes and the threads' phases.
use Rattle.std.specs.Prelude.{ℕ, ◌+◌, ◌-◌, ◌*◌, ◌/◌, ◌%◌, ◌==◌, nat_lt, if◌then◌else◌, false, List, slice_index}
use Rattle.std.specs.Int.{bit_at}
use Rattle.wake_pool.specs.declared.layout.TheConstants.{WORD_WORKERS}
use Rattle.wake_pool.specs.declared.phase.WakePhase.{WakePhase as Phase}
use Rattle.wake_pool.specs.Schedule.{World}

-- The number of words of sleepers: 63 workers have one.
abbrev pub word_count : ℕ → ℕ
word_count workers = (workers + WORD_WORKERS - 1) / WORD_WORKERS

-- The word of a worker's bit.
abbrev pub word_of : ℕ → ℕ
word_of t = t / WORD_WORKERS

-- Which bit of its word is a worker's.
abbrev pub bit_of : ℕ → ℕ
bit_of t = t % WORD_WORKERS

-- The word of a worker's token. Its mailbox is beside it.
abbrev pub token_at : ℕ → ℕ → ℕ
token_at workers t = word_count workers + 2 * t

-- The word of a worker's mailbox.
abbrev pub mail_at : ℕ → ℕ → ℕ
mail_at workers t = token_at workers t + 1

-- The first word above them.
abbrev pub base : ℕ → ℕ
base workers = word_count workers + 2 * workers

-- The world that these words show, with this number of jobs in each lane and these phases.
abbrev pub world_of : ℕ → ℕ → List ℕ → (ℕ → ℕ) → (ℕ → Phase) → World
world_of workers lanes ws jobs phase = record {
  workers = workers;
  lanes = lanes;
  words = word_count workers;
  word = word_of;
  jobs = jobs;
  searching = λ b. if nat_lt b (word_count workers) then bit_at (slice_index ws b) WORD_WORKERS == 1 else false;
  asleep = λ t. if nat_lt (word_of t) (word_count workers) then bit_at (slice_index ws (word_of t)) (bit_of t) == 1 else false;
  token = λ t. if nat_lt t workers then slice_index ws (token_at workers t) == 1 else false;
  mail = λ t. if nat_lt t workers then slice_index ws (mail_at workers t) == 1 else false;
  phase = phase;
}
