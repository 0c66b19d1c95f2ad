-- The rule of the table: the bit of each place is the number of runs that have it. It is also 1
-- where the word under it is open, or where its own word is shut.
use Rattle.std.specs.Prelude.{◌≡◌, ℕ, ◌+◌, ◌/◌, ◌<◌, ◌≤◌, List, [], length}
use Rattle.atomic_table.specs.Table.{State}
use Rattle.ghost_history.specs.Sums.{total}
use Rattle.bitmap_tree.specs.declared.view.Run.{Run}
use Rattle.bitmap_tree.specs.declared.view.View.{View}
use Rattle.bitmap_tree.specs.declared.view.Size.{Size}
use mathlib.Core.Option.{some}
use lib.ListN.{get_elem?}
use Rattle.bitmap_tree.specs.Rule.{word_count, bit_of, has}

-- how many of the runs have the place q
abbrev pub times : ℕ → List Run → ℕ
times q runs = total (has q) runs

abbrev pub times_in : ℕ → View → ℕ
times_in q v = times q v.runs

-- the rule, with the words that are opened to takes
pub record IsKeptWith (n : ℕ) (opened : ℕ → ℕ) (s : State Run View) : Type 0 where
  pub count : length s.words ≡ word_count n
  -- the top word is always opened
  pub root : opened 0 ≡ 1
  pub few : (w : ℕ) → opened w ≤ 1
  pub outside : (w : ℕ) → word_count n ≤ w → opened w ≡ 0
  -- In a word that is opened a bit is set where a run has it, or the word under it is opened. In a
  -- shut word each bit is set, no run has it, and the word under it is shut.
  pub bits : (q : ℕ)
      → total (times_in q) s.views + 1 + opened (q + 1) ≡ bit_of s.words q + opened (q / 64)

-- the rule of the bits, with some words opened
abbrev pub IsEven : ℕ → State Run View → Type 0
IsEven n s = (opened : ℕ → ℕ) × IsKeptWith n opened s

-- a view with no permit has no place
abbrev pub IsOwned : View → Type 0
IsOwned v = v.permits ≡ 0 → (q : ℕ) → times q v.runs ≡ 0

abbrev pub permits_in : View → ℕ
permits_in v = v.permits

-- the rule of the permits: where there are permits, a view that has none has claimed nothing
pub record IsShared (k : Size) (s : State Run View) : Type 0 where
  pub permits : total permits_in s.views ≡ k.permits
  pub owned : 0 < k.permits → (id : ℕ) (v : View) → get_elem? s.views id ≡ some v → IsOwned v

-- the rule of the table
abbrev pub IsKept : Size → State Run View → Type 0
IsKept k s = IsEven k.dim s × IsShared k s

-- the view of the first seat: it has all permits, and has claimed nothing
abbrev pub first_view : Size → View
first_view k = record { runs = []; trail = []; permits = k.permits }
