-- Units after the items change neither the total of all items nor that of the items up to one of
-- them.
use Rattle.std.proofs.Common.{◌≡◌, ℕ, zero, suc, ◌+◌, ◌-◌, ◌^◌, ◌≤◌, List, [], ◌∷◌, ◌++◌, length, refl, sym, ap, ◌∙◌}
use Rattle.std.specs.Prelude.{fold, replicate, All}
use Rattle.std.proofs.lemmas.List.{append_assoc, replicate-append-replicate, take-append-le}
use Rattle.collectives.specs.Laws.{MonoidLaws}
use Rattle.collectives.specs.Places.{padded, prefix_total, total}
use Rattle.collectives.proofs.FoldLemmas.{fold-append, total-value}

module _ {M : Type 0} {IsValue : M → Type 0} {unit : M} {join : M → M → M}
    (laws : MonoidLaws IsValue unit join) where
  -- units on the right of a value change nothing
  fold-units : (count : ℕ) (a : M) → IsValue a → fold join a (replicate count unit) ≡ a
  fold-units zero a a_value = refl
  fold-units (suc count) a a_value =
      ap (λ x. fold join x (replicate count unit)) (laws.right_unit a a_value) ∙ fold-units count a a_value

  -- the total of all places is that of the items
  pub total_padded : (k : ℕ) (items : List M) → All IsValue items
      → total join unit (padded unit k items) ≡ total join unit items
  total_padded k items values =
      fold-append join unit items (replicate (2 ^ k - length items) unit)
      ∙ fold-units (2 ^ k - length items) (total join unit items) (total-value laws items values)

-- and so is the total of the first places, as far as there are items
pub prefix_padded : {M : Type 0} (join : M → M → M) (unit : M) (k : ℕ) (items : List M) (count : ℕ)
    → count ≤ length items
    → prefix_total join unit (padded unit k items) count ≡ prefix_total join unit items count
prefix_padded join unit k items count within =
    ap (total join unit) (take-append-le count items (replicate (2 ^ k - length items) unit) within)

-- one unit more
pub one_unit_more : {M : Type 0} (unit : M) (items places : List M) (count next : ℕ)
    → places ≡ items ++ replicate count unit
    → next ≡ count + 1
    → places ++ unit ∷ [] ≡ items ++ replicate next unit
one_unit_more unit items places count next had more =
    ap (λ (xs : List _). xs ++ unit ∷ []) had
    ∙ append_assoc items (replicate count unit) (unit ∷ [])
    ∙ ap (λ (units : List _). items ++ units) (replicate-append-replicate count 1 unit)
    ∙ ap (λ (n : ℕ). items ++ replicate n unit) (sym more)
