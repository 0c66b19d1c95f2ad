-- Views, which threads carry, and how they are tied to the record of each member.
use Rattle.std.specs.Prelude.{◌≡◌, ℕ, ◌<◌, ◌≤◌, List}
use Rattle.std.specs.List.{AllByRecursion as Each}
use mathlib.Core.Option.{some}
use lib.ListN.{get_elem?}
use Rattle.ghost_history.specs.Sums.{total, is_at}

module _ {V R : Type 0} (records : V → List R) (number : R → ℕ) where
  -- How often the view has a record of the member.
  abbrev pub shares : ℕ → V → ℕ
  shares k view = total (λ r. is_at k (number r)) (records view)

  -- Each record in a view is that of its member, whose number is below the count. No member has two
  -- records.
  pub record Tied (count : ℕ) (recorded : ℕ → R) (views : List V) : Type 0 where
    pub each : (id : ℕ) (view : V)
        → get_elem? views id ≡ some view
        → Each (λ r. (r ≡ recorded (number r)) × (number r < count)) (records view)
    pub once : (k : ℕ) → total (shares k) views ≤ 1
