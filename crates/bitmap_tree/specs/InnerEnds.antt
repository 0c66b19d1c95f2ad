-- The words on the way to the end.
use Rattle.std.specs.Prelude.{◌≡◌, ℕ, ◌<◌, ◌≤◌, List}
use mathlib.Core.Option.{some}
use lib.ListN.{get_elem?}
use Rattle.atomic_table.specs.Table.{State}
use Rattle.ghost_history.specs.Sums.{total}
use Rattle.bitmap_tree.specs.declared.view.Run.{Run}
use Rattle.bitmap_tree.specs.declared.view.View.{View}
use Rattle.bitmap_tree.specs.declared.view.Size.{Size}
use Rattle.bitmap_tree.specs.Ends.{IsClosed, IsLeft, IsLeftWith}
use Rattle.bitmap_tree.specs.InnerRule.{times_in, IsShared}

-- the same on the way: from a word on, each is shut
abbrev pub IsShutFrom : ℕ → (ℕ → ℕ) → ℕ → List ℕ → Type 0
IsShutFrom n held from words =
    (opened : ℕ → ℕ) × IsLeftWith n held opened words
    × (((q : ℕ) → held q ≡ 0) → (x : ℕ) → from ≤ x → 0 < x → opened x ≡ 0)

-- the state is the last one, and a seat has this view in it
abbrev pub HasView : Size → View → State Run View → Type 0
HasView k v s = IsShared k s × ((id : ℕ) × (get_elem? s.views id ≡ some v))

-- the words of a last state in which a seat has this view
abbrev pub AreLast : Size → View → List ℕ → Type 0
AreLast k v words =
    (s : State Run View) × HasView k v s × IsLeft k.dim (λ q. total (times_in q) s.views) words

-- the same, once the words that are 0 are shut
abbrev pub AreClosedBy : Size → View → List ℕ → Type 0
AreClosedBy k v words =
    (s : State Run View) × HasView k v s × IsClosed k.dim (λ q. total (times_in q) s.views) words
