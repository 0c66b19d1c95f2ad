-- Words that a seat read by loads.
use Rattle.std.specs.Prelude.{◌≡◌, ℕ, ◌+◌, cond, ◌==◌, List, [], ◌∷◌, slice_index}
use Rattle.bitmap_tree.specs.declared.view.Note.{Note}

-- What a load notes: it found this in a word, and left it there.
abbrev pub saw : ℕ → ℕ → Note
saw word found = record { word = word; found = found; left = found }

-- How many steps of a trail were on a word.
abbrev pub reads_of : ℕ → List Note → ℕ
reads_of w [] = 0
reads_of w (n ∷ ns) = cond (w == n.word) 1 0 + reads_of w ns

-- These are words in which each step found what it found.
abbrev pub AreSeen : List Note → List ℕ → Type 0
AreSeen [] words = Unit {0}
AreSeen (n ∷ ns) words = (slice_index words n.word ≡ n.found) × AreSeen ns words
