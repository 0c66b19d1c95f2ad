-- A pass over the processors of a machine, which reads each word at its first processor.
use Rattle.std.specs.Prelude.{◌≡◌, ◌≢◌, ℕ, ◌+◌, ◌-◌, ◌*◌, ◌/◌, ◌%◌, ◌^◌, ◌<◌, ◌≤◌, ◌⊎◌, List, [], slice_index}
use Rattle.std.specs.Int.{bit_at}
use Rattle.bitmap_tree.specs.Reads.{reads_of}
use Rattle.bitmap_tree.specs.Rule.{first_word}
use Rattle.bitmap_tree.specs.Trail.{OnlyLooked}
use Rattle.bitmap_tree.specs.declared.view.Note.{Note}

-- The number of processors of a word of a level.
abbrev pub width : ℕ → ℕ
width level = 2 ^ (6 * level + 6)

-- The word of a level in which a processor lies.
abbrev pub word_at : ℕ → ℕ → ℕ → ℕ
word_at n level p = first_word (n / 6 - level) + p / width level

-- The words of these levels were read, and the top word.
abbrev pub IsDone : ℕ → ℕ → ℕ → Type 0
IsDone n done level = (level < done) ⊎ (level ≡ n / 6)

-- The path has the words in which the processor lies, of the levels that are done. It has those of
-- the others too unless the processor is the first of its word.
abbrev pub IsPath : ℕ → ℕ → ℕ → List ℕ → List ℕ → Type 0
IsPath n p done words path =
    (level : ℕ) → level ≤ n / 6 → IsDone n done level ⊎ (p % width level ≢ 0)
    → slice_index path level ≡ slice_index words (word_at n level p)

-- The processor is held by the words of a path: in each the bit of its unit is set.
abbrev pub IsHeldOn : ℕ → List ℕ → ℕ → Type 0
IsHeldOn n path p =
    (level : ℕ) → level ≤ n / 6 → bit_at (slice_index path level) (p / 2 ^ (6 * level) % 64) ≡ 1

-- The word number `m` of a level was passed: it begins before the processor, or with it if the
-- level is done.
abbrev pub IsPassed : ℕ → ℕ → ℕ → ℕ → ℕ → Type 0
IsPassed n p done level m =
    (m * width level < p) ⊎ ((m * width level ≡ p) × IsDone n done level)

-- The word was passed in one of the levels.
pub record WasPassed (n p done w : ℕ) : Type 0 where
  pub level : ℕ
  pub number : ℕ
  pub low : level ≤ n / 6
  pub is : w ≡ first_word (n / 6 - level) + number
  pub passed : IsPassed n p done level number

-- The words that were passed are those that were read, each of them once, by loads.
pub record IsReadTo (n p done : ℕ) (trail : List Note) : Type 0 where
  pub looked : OnlyLooked [] trail
  pub once : (w : ℕ) → reads_of w trail ≤ 1
  pub passed : (w : ℕ) → 0 < reads_of w trail → WasPassed n p done w
  pub each : (level m : ℕ) → level ≤ n / 6 → IsPassed n p done level m
      → 0 < reads_of (first_word (n / 6 - level) + m) trail
