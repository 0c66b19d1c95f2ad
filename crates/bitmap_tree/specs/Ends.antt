-- The words at the end, and what they say.
use Rattle.std.specs.Prelude.{◌≡◌, ℕ, ◌+◌, ◌/◌, ◌<◌, ◌≤◌, List, length}
use Rattle.ghost_history.specs.Sums.{total}
use Rattle.bitmap_tree.specs.declared.handles.HeldBlock.{HeldBlock}
use Rattle.bitmap_tree.specs.Handles.{held_region}
use Rattle.bitmap_tree.specs.Layout.{run_of}
use Rattle.bitmap_tree.specs.Rule.{word_count, bit_of, has}

-- The words of a state that meets the rule, where each place is held so often, and these words are
-- opened.
pub record IsLeftWith (n : ℕ) (held opened : ℕ → ℕ) (words : List ℕ) : Type 0 where
  pub count : length words ≡ word_count n
  pub root : opened 0 ≡ 1
  pub few : (w : ℕ) → opened w ≤ 1
  pub outside : (w : ℕ) → word_count n ≤ w → opened w ≡ 0
  pub even : (q : ℕ) → held q + 1 + opened (q + 1) ≡ bit_of words q + opened (q / 64)

-- the words of a state that meets the rule, where each place is held so often
abbrev pub IsLeft : ℕ → (ℕ → ℕ) → List ℕ → Type 0
IsLeft n held words = (opened : ℕ → ℕ) × IsLeftWith n held opened words

-- the words of a machine in which nothing was ever taken: no bit of the top word is set, and each
-- other word is shut
abbrev pub IsFresh : List ℕ → Type 0
IsFresh words =
    ((q : ℕ) → q / 64 ≡ 0 → bit_of words q ≡ 0)
    × ((q : ℕ) → 0 < q / 64 → bit_of words q ≡ 1)

-- the same; and where no place is held, the words are those of a machine in which nothing was ever
-- taken
abbrev pub IsClosed : ℕ → (ℕ → ℕ) → List ℕ → Type 0
IsClosed n held words =
    (opened : ℕ → ℕ) × IsLeftWith n held opened words
    × (((q : ℕ) → held q ≡ 0) → IsFresh words)

-- In how many of the held blocks a place is.
abbrev pub times_held : ℕ → ℕ → List HeldBlock → ℕ
times_held n q blocks = total (λ held. has q (run_of n (held_region held))) blocks

-- The words that a close leaves. Each place is held at least by those of these blocks that have it.
abbrev pub AreEnded : ℕ → List HeldBlock → List ℕ → Type 0
AreEnded n blocks words =
    (held : ℕ → ℕ) × IsClosed n held words × ((q : ℕ) → times_held n q blocks ≤ held q)
