-- What the steps of a call found and left, as the parts of a call say it.
use Rattle.std.specs.Prelude.{◌≡◌, cond, ◌==◌, ℕ, ◌+◌, ◌*◌, ◌/◌, ◌%◌, ◌^◌, ◌<◌, ◌≤◌, ◌⊎◌, List, [], ◌∷◌}
use Rattle.std.specs.Int.{bit_at}
use Rattle.bitmap_tree.specs.declared.view.Note.{Note}
use Rattle.bitmap_tree.specs.declared.view.Run.{Run}
use Rattle.bitmap_tree.specs.Rule.{has}
use Rattle.bitmap_tree.specs.Layout.{Known}
use Rattle.bitmap_tree.specs.Trail.{AreRightSteps, WasSet, IsAlone, WasReleased}

-- of these places one was found set
abbrev pub HasSeen : List Note → ℕ → ℕ → Type 0
HasSeen trail from len = (q : ℕ) × (from ≤ q) × (q < from + len) × WasSet trail q

-- what was found set is kept
abbrev pub Keeps : Known → Known → Type 0
Keeps old new = (q : ℕ) → WasSet old.0.trail q → WasSet new.0.trail q

-- one of these bits of a word is set
abbrev pub HasBit : ℕ → ℕ → ℕ → Type 0
HasBit word from len = (j : ℕ) × (from ≤ j) × (j < from + len) × (bit_at word j ≡ 1)

-- the trail has what was found in a word
abbrev pub Shows : ℕ → ℕ → List Note → Type 0
Shows word found trail = (j : ℕ) → j < 64 → bit_at found j ≡ 1 → WasSet trail (64 * word + j)

-- of each region of 2 ^ k places of the word one was found set; the first bits of the word count
abbrev pub IsFull : ℕ → ℕ → ℕ → List Note → Type 0
IsFull size k word trail =
    (o : ℕ) → o % 2 ^ k ≡ 0 → o + 2 ^ k ≤ size → HasSeen trail (64 * word + o) (2 ^ k)

-- what the newest step on a word left there, and 0 where there is none
abbrev pub left_by : List Note → ℕ → ℕ
left_by [] w = 0
left_by (n ∷ ns) w = cond (w == n.word) n.left (left_by ns w)

-- where the longer trail is of a call alone, so is the shorter
abbrev pub HasPast : Known → Known → Type 0
HasPast old new =
    (words : ℕ → ℕ)
    → IsAlone words new.0.trail
    → (before : ℕ → ℕ) × IsAlone before old.0.trail

-- what was released before is so still
abbrev pub KeepsReleases : Known → Known → Type 0
KeepsReleases old new =
    (r : Run) (before : List Note)
    → WasReleased r before old.0.trail
    → WasReleased r before new.0.trail

-- the steps between were on words from one on, below another
pub record StepsOn (from to : ℕ) (old new : Known) : Type 0 where
  pub keeps : Keeps old new
  pub released : KeepsReleases old new
  pub past : HasPast old new
  pub elsewhere : (w : ℕ) → (w < from) ⊎ (to ≤ w) → left_by new.0.trail w ≡ left_by old.0.trail w

-- of each aligned run of 2 ^ k bits of the word one is set; the first bits of the word count
abbrev pub IsFullWord : ℕ → ℕ → ℕ → Type 0
IsFullWord size k word = (o : ℕ) → o % 2 ^ k ≡ 0 → o + 2 ^ k ≤ size → HasBit word o (2 ^ k)

-- a bit of the run is set in these words
abbrev pub IsSetIn : (ℕ → ℕ) → Run → Type 0
IsSetIn words r = (q : ℕ) × (0 < has q r) × (bit_at (words (q / 64)) (q % 64) ≡ 1)

-- where each step of the shorter trail was right, so was each of the longer
abbrev pub KeepsRight : ℕ → Known → Known → Type 0
KeepsRight n old new = AreRightSteps n old.0.trail → AreRightSteps n new.0.trail
