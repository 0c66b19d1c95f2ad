-- Items joined from the left, under the laws of a monoid.
use Rattle.std.proofs.Common.{◌≡◌, ℕ, ◌+◌, ◌<◌, List, [], ◌∷◌, ◌++◌, length, take, drop, refl, sym, ap, ◌∙◌}
use Rattle.std.specs.Prelude.{fold, All}
use Rattle.std.proofs.lemmas.List.{drop-drop, drop_more}
use Rattle.std.proofs.Math.Seq.{take-add}
use Rattle.std.proofs.lemmas.List.Elements.{All-head, All-tail, All-take, All-drop, All-get_or}
use Rattle.collectives.specs.Laws.{MonoidLaws}
use Rattle.collectives.specs.Places.{total}
use Rattle.collectives.specs.Inner.Rounds.{item_at}

-- `count` items from one rank on, joined from the left
abbrev pub range_total : {M : Type 0} → (M → M → M) → M → List M → ℕ → ℕ → M
range_total join unit items from count = total join unit (take count (drop from items))

pub fold-append : {A B : Type 0} (f : B → A → B) (a : B) (xs ys : List A)
    → fold f a (xs ++ ys) ≡ fold f (fold f a xs) ys
fold-append f a [] ys = refl
fold-append f a (x ∷ xs) ys = fold-append f (f a x) xs ys

module _ {M : Type 0} {IsValue : M → Type 0} {unit : M} {join : M → M → M}
    (laws : MonoidLaws IsValue unit join) where
  pub fold-value : (a : M) (xs : List M) → IsValue a → All IsValue xs → IsValue (fold join a xs)
  fold-value a [] a_value values = a_value
  fold-value a (x ∷ xs) a_value values =
      fold-value (join a x) xs (laws.join_value a x a_value (All-head IsValue x xs values)) (All-tail IsValue x xs values)

  pub total-value : (xs : List M) → All IsValue xs → IsValue (total join unit xs)
  total-value xs values = fold-value unit xs laws.unit_value values

  -- a value on the left of all items can be joined to their total
  pub fold_from : (a : M) (xs : List M)
      → IsValue a
      → All IsValue xs
      → fold join a xs ≡ join a (total join unit xs)
  fold_from a [] a_value values = sym (laws.right_unit a a_value)
  fold_from a (x ∷ xs) a_value values =
      let x_value = All-head IsValue x xs values in
      let rest = All-tail IsValue x xs values in
      let head : fold join (join a x) xs ≡ join (join a x) (total join unit xs) = fold_from (join a x) xs (laws.join_value a x a_value x_value) rest in
      let alone : fold join (join unit x) xs ≡ join (join unit x) (total join unit xs) = fold_from (join unit x) xs (laws.join_value unit x laws.unit_value x_value) rest in
      head ∙ laws.assoc a x (total join unit xs) a_value x_value (total-value xs rest)
      ∙ ap (join a) (sym (alone ∙ ap (λ y. join y (total join unit xs)) (laws.left_unit x x_value)))

  pub total-append : (xs ys : List M)
      → All IsValue xs
      → All IsValue ys
      → total join unit (xs ++ ys) ≡ join (total join unit xs) (total join unit ys)
  total-append xs ys xs_values ys_values = fold-append join unit xs ys ∙ fold_from (total join unit xs) ys (total-value xs xs_values) ys_values

  pub range_total-value : (items : List M) (from count : ℕ)
      → All IsValue items
      → IsValue (range_total join unit items from count)
  range_total-value items from count values =
      total-value (take count (drop from items)) (All-take IsValue count (drop from items) (All-drop IsValue from items values))

  -- a range is the range of its first m items, joined to that of its last n
  pub range_total-add : (items : List M) (from m n : ℕ)
      → All IsValue items
      → range_total join unit items from (m + n)
      ≡ join (range_total join unit items from m) (range_total join unit items (from + m) n)
  range_total-add items from m n values =
      ap (total join unit) (take-add m n (drop from items) ∙ ap (λ ys. take m (drop from items) ++ take n ys) (drop-drop m from items))
      ∙ total-append (take m (drop from items)) (take n (drop (from + m) items))
      (All-take IsValue m (drop from items) (All-drop IsValue from items values))
      (All-take IsValue n (drop (from + m) items) (All-drop IsValue (from + m) items values))

  pub range_total-one : (items : List M) (from : ℕ)
      → All IsValue items
      → from < length items
      → range_total join unit items from 1 ≡ item_at unit items from
  range_total-one items from values within =
      ap (λ ys. total join unit (take 1 ys)) (drop_more items from unit within)
      ∙ laws.left_unit (item_at unit items from) (All-get_or IsValue items from unit within values)
