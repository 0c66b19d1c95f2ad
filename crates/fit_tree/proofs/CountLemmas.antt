-- Counts of the numbers that have a property.
use Rattle.std.proofs.Common.{◌≡◌, ◌≢◌, ℕ, zero, suc, ◌+◌, ◌-◌, ◌*◌, ◌/◌, ◌<◌, ◌≤◌, ◌⊎◌, inl, inr, refl, sym, ◌∙◌, subst, arith}
use Rattle.std.specs.Prelude.{◌↔◌}
use Rattle.std.proofs.lemmas.Bool.{cases_eq}
use Rattle.alloc_bits.specs.Count.{IsCount}
use Rattle.fit_tree.specs.InnerNodes.{Weighs}

-- ---- one property

pub count_bound : (P : ℕ → Type 0) (bound count : ℕ) → IsCount P bound count → count ≤ bound
count_bound P zero count is = omega arith
count_bound P (suc m) count (inl (has, (before, is, counted))) = omega (arith, is, count_bound P m before counted)
count_bound P (suc m) count (inr (none, counted)) = omega (arith, count_bound P m count counted)

pub count_unique : (P : ℕ → Type 0) (bound a b : ℕ) → IsCount P bound a → IsCount P bound b → a ≡ b
count_unique P zero a b of_a of_b = of_a ∙ sym of_b
count_unique P (suc m) a b (inl (has, (before, is, counted))) (inl (has_too, (other, too, counted_too))) =
    omega (arith, is, too, count_unique P m before other counted counted_too)
count_unique P (suc m) a b (inl (has, of_a)) (inr (none, of_b)) = absurd (none has)
count_unique P (suc m) a b (inr (none, of_a)) (inl (has, of_b)) = absurd (none has)
count_unique P (suc m) a b (inr (none, of_a)) (inr (none_too, of_b)) = count_unique P m a b of_a of_b

pub count_nothing : (P : ℕ → Type 0) → IsCount P 0 0
count_nothing P = refl

pub count_none : (P : ℕ → Type 0) (bound : ℕ) → ((m : ℕ) → m < bound → P m → ⊥) → IsCount P bound 0
count_none P zero none = refl
count_none P (suc m) none = inr (none m (omega arith), count_none P m (λ i less. none i (omega arith)))

-- a number that has the property is counted
pub weight_counted : (P : ℕ → Type 0) (i weight bound count : ℕ) → i < bound → Weighs (P i) weight → IsCount P bound count → weight ≤ count
weight_counted P i weight zero count within weighs is = absurd (omega arith)
weight_counted P i weight (suc m) count within weighs (inl (has, (before, is, counted))) = elim weighs [
  | inl one ↦ omega (arith, is, one.0)
  | inr none ↦ omega (arith, none.0)
]
weight_counted P i weight (suc m) count within weighs (inr (none, counted)) = elim (cases_eq m i) [
  | inl same ↦ elim weighs [
    | inl one ↦ absurd (none (subst P (sym same) one.1))
    | inr zero_weight ↦ omega (arith, zero_weight.0)
  ]
  | inr other ↦ weight_counted P i weight m count (omega (arith, other)) weighs counted
]

-- ---- a property by its weights

pub count_more : (P : ℕ → Type 0) (m count weight : ℕ) → IsCount P m count → Weighs (P m) weight → IsCount P (m + 1) (count + weight)
count_more P m count weight counted weighs =
    let next : suc m ≡ m + 1 = omega arith in
    subst (λ bound. IsCount P bound (count + weight)) next (elim weighs [
      | inl one ↦ let sum : count + weight ≡ count + 1 = omega (arith, one.0) in inl (one.1, (count, sum, counted))
      | inr none ↦
          let sum : count ≡ count + weight = omega (arith, none.0) in inr (none.1, subst (IsCount P m) sum counted)
    ])

-- ---- two properties

pub count_alike : (P Q : ℕ → Type 0) (bound count : ℕ)
    → ((m : ℕ) → m < bound → P m ↔ Q m)
    → IsCount P bound count
    → IsCount Q bound count
count_alike P Q zero count same is = is
count_alike P Q (suc m) count same (inl (has, (before, is, counted))) =
    inl ((same m (omega arith)).0 has, (before, is, count_alike P Q m before (λ i less. same i (omega arith)) counted))
count_alike P Q (suc m) count same (inr (none, counted)) =
    inr (λ has. none ((same m (omega arith)).1 has), count_alike P Q m count (λ i less. same i (omega arith)) counted)

-- properties that differ in one number
module _ (P Q : ℕ → Type 0) (i old new : ℕ) (weighs : Weighs (P i) old) (weighs' : Weighs (Q i) new) where
  -- this number is the last one
  changes_last : (m before count after : ℕ) → m ≡ i → count ≡ before + old → after ≡ before + new → IsCount Q m before → IsCount Q (suc m) after
  changes_last m before count after here of_count of_after counted = elim weighs' [
    | inl one ↦
        let sum : after ≡ before + 1 = omega (arith, one.0) in inl (subst Q (sym here) one.1, (before, sum, counted))
    | inr none ↦
        let sum : before ≡ after = omega (arith, none.0) in inr (λ has. none.1 (subst Q here has), subst (IsCount Q m) sum counted)
  ]

  pub count_changes : (bound count after : ℕ)
      → ((m : ℕ) → m < bound → m ≢ i → P m ↔ Q m)
      → i < bound
      → after + old ≡ count + new
      → IsCount P bound count
      → IsCount Q bound after
  count_changes zero count after same within sums is = absurd (omega arith)
  count_changes (suc m) count after same within sums (inl (has, (before, is, counted))) = elim (cases_eq m i) [
    | inl here ↦
        let one : old ≡ 1 = elim weighs [ inl w ↦ w.0 | inr w ↦ absurd (w.1 (subst P here has)) ] in
        changes_last m before count after here (omega (arith, is, one)) (omega (arith, is, one))
        (count_alike P Q m before (λ j less. same j (omega arith) (λ at. omega (arith, at, here))) counted)
    | inr other ↦
        let most = weight_counted P i old m before (omega (arith, other)) weighs counted in
        let sum : after ≡ before + new - old + 1 = omega (arith, is, most) in
        inl ((same m (omega arith) other).0 has, (before + new - old, sum, count_changes m before (before + new - old) (λ j less. same j (omega arith)) (omega (arith, other)) (omega (arith, most)) counted))
  ]
  count_changes (suc m) count after same within sums (inr (none, counted)) = elim (cases_eq m i) [
    | inl here ↦
        let zero_weight : old ≡ 0 = elim weighs [ inl w ↦ absurd (none (subst P (sym here) w.1)) | inr w ↦ w.0 ] in
        changes_last m count count after here (omega (arith, zero_weight)) (omega (arith, zero_weight))
        (count_alike P Q m count (λ j less. same j (omega arith) (λ at. omega (arith, at, here))) counted)
    | inr other ↦
        inr (λ has. none ((same m (omega arith) other).1 has), count_changes m count after (λ j less. same j (omega arith)) (omega (arith, other)) sums counted)
  ]

-- properties that differ in a number and the next one
module _ (P Q : ℕ → Type 0) (i left right left' right' : ℕ) (weighs_left : Weighs (P i) left)
    (weighs_right : Weighs (P (i + 1)) right) (weighs_left' : Weighs (Q i) left') (weighs_right' : Weighs (Q (i + 1)) right') where
  -- the first of them has changed
  Half : ℕ → Type 0
  Half m = ((m ≡ i) × Q m) ⊎ ((m ≢ i) × P m)

  half_left : Weighs (Half i) left'
  unfolding Half
  half_left = elim weighs_left' [
    | inl one ↦ inl (one.0, inl (refl, one.1))
    | inr none ↦ inr (none.0, λ has. elim has [ inl here ↦ none.1 here.1 | inr other ↦ other.0 refl ])
  ]

  half_right : Weighs (Half (i + 1)) right
  unfolding Half
  half_right = elim weighs_right [
    | inl one ↦ inl (one.0, inr (λ same. omega (arith, same), one.1))
    | inr none ↦ inr (none.0, λ has. elim has [ inl here ↦ omega (arith, here.0) | inr other ↦ none.1 other.1 ])
  ]

  half_first : (m : ℕ) → m ≢ i → P m ↔ Half m
  unfolding Half
  half_first m other = (λ has. inr (other, has), λ has. elim has [ inl here ↦ absurd (other here.0) | inr is ↦ is.1 ])

  half_second : (m : ℕ) → (m ≢ i → P m ↔ Q m) → Half m ↔ Q m
  unfolding Half
  half_second m same = (
    λ has. elim has [ inl here ↦ here.1 | inr is ↦ (same is.0).0 is.1 ],
    λ has. elim (cases_eq m i) [ inl here ↦ inl (here, has) | inr other ↦ inr (other, (same other).1 has) ],
  )

  pub count_changes_two : (bound count after : ℕ)
      → ((m : ℕ) → m < bound → m ≢ i → m ≢ i + 1 → P m ↔ Q m)
      → i + 1 < bound
      → after + (left + right) ≡ count + (left' + right')
      → IsCount P bound count
      → IsCount Q bound after
  count_changes_two bound count after same within sums counted =
      let some = weight_counted P i left bound count (omega arith) weighs_left counted in
      let first = count_changes P Half i left left' weighs_left half_left bound count (count + left' - left) (λ m less other. half_first m other) (omega arith) (omega (arith, some)) counted in
      let more = weight_counted Half (i + 1) right bound (count + left' - left) within half_right first in
      count_changes Half Q (i + 1) right right' half_right weighs_right' bound (count + left' - left) after
      (λ m less other. half_second m (λ not_first. same m less not_first other)) within (omega (arith, some, more)) first

-- ---- sums and differences of counts

pub count_adds : (P Q R : ℕ → Type 0) (bound a b : ℕ)
    → ((m : ℕ) → m < bound → R m → P m ⊎ Q m)
    → ((m : ℕ) → m < bound → P m ⊎ Q m → R m)
    → ((m : ℕ) → m < bound → P m → Q m → ⊥)
    → IsCount P bound a
    → IsCount Q bound b
    → IsCount R bound (a + b)
count_adds P Q R zero a b into back apart of_a of_b = omega (arith, of_a, of_b)
count_adds P Q R (suc m) a b into back apart (inl (has, (before, is, counted))) (inl (has_too, of_b)) = absurd (apart m (omega arith) has has_too)
count_adds P Q R (suc m) a b into back apart (inl (has, (before, is, counted))) (inr (none, of_b)) =
    let sum : a + b ≡ before + b + 1 = omega (arith, is) in
    inl (back m (omega arith) (inl has), (before + b, sum, count_adds P Q R m before b (λ i less. into i (omega arith)) (λ i less. back i (omega arith)) (λ i less. apart i (omega arith)) counted of_b))
count_adds P Q R (suc m) a b into back apart (inr (none, of_a)) (inl (has, (before, is, counted))) =
    let sum : a + b ≡ a + before + 1 = omega (arith, is) in
    inl (back m (omega arith) (inr has), (a + before, sum, count_adds P Q R m a before (λ i less. into i (omega arith)) (λ i less. back i (omega arith)) (λ i less. apart i (omega arith)) of_a counted))
count_adds P Q R (suc m) a b into back apart (inr (none, of_a)) (inr (none_too, of_b)) =
    inr (λ has. elim (into m (omega arith) has) [ inl p ↦ none p | inr q ↦ none_too q ], count_adds P Q R m a b (λ i less. into i (omega arith)) (λ i less. back i (omega arith)) (λ i less. apart i (omega arith)) of_a of_b)

-- each number twice
pub count_doubles : (P : ℕ → Type 0) (bound count : ℕ) → IsCount P bound count → IsCount (λ m. P (m / 2)) (2 * bound) (2 * count)
count_doubles P zero count is = omega (arith, is)
count_doubles P (suc m) count counted = subst (λ bound. IsCount (λ i. P (i / 2)) bound (2 * count)) twice (elim counted [
  | inl one ↦
      let sum : 2 * count ≡ 2 * one.1.0 + 1 + 1 = omega (arith, one.1.1) in
      inl (subst P odd one.0, (2 * one.1.0 + 1, sum, inl (subst P even one.0, (2 * one.1.0, refl, count_doubles P m one.1.0 one.1.2))))
  | inr none ↦ inr (λ has. none.0 (subst P (sym odd) has), inr (λ has. none.0 (subst P (sym even) has), count_doubles P m count none.1))
])
  where
    twice : suc (suc (2 * m)) ≡ 2 * suc m
    twice = omega arith

    odd : m ≡ suc (2 * m) / 2
    odd = omega arith

    even : m ≡ 2 * m / 2
    even = omega arith

-- the numbers without the property
pub count_others : (P Q : ℕ → Type 0) (bound count : ℕ)
    → ((m : ℕ) → m < bound → P m → Q m → ⊥)
    → ((m : ℕ) → m < bound → (P m → ⊥) → Q m)
    → IsCount P bound count
    → IsCount Q bound (bound - count)
count_others P Q zero count apart rest is = omega (arith, is)
count_others P Q (suc m) count apart rest (inl (has, (before, is, counted))) =
    let same : m - before ≡ suc m - count = omega (arith, is) in
    inr (apart m (omega arith) has, subst (IsCount Q m) same (count_others P Q m before (λ i less. apart i (omega arith)) (λ i less. rest i (omega arith)) counted))
count_others P Q (suc m) count apart rest (inr (none, counted)) =
    let most = count_bound P m count counted in
    let sum : suc m - count ≡ m - count + 1 = omega (arith, most) in
    inl (rest m (omega arith) none, (m - count, sum, count_others P Q m count (λ i less. apart i (omega arith)) (λ i less. rest i (omega arith)) counted))

-- two numbers in a row that have the property are counted
pub two_counted : (P : ℕ → Type 0) (i left right bound count : ℕ) → i + 1 < bound → Weighs (P i) left → Weighs (P (i + 1)) right → IsCount P bound count → left + right ≤ count
two_counted P i left right zero count within of_left of_right is = absurd (omega arith)
two_counted P i left right (suc m) count within of_left of_right (inl (has, (before, is, counted))) = elim (cases_eq m (i + 1)) [
  | inl same ↦
      let one : right ≤ 1 = elim of_right [ inl w ↦ omega (arith, w.0) | inr w ↦ omega (arith, w.0) ] in
      omega (arith, is, one, weight_counted P i left m before (omega (arith, same)) of_left counted)
  | inr other ↦ omega (arith, is, two_counted P i left right m before (omega (arith, other)) of_left of_right counted)
]
two_counted P i left right (suc m) count within of_left of_right (inr (none, counted)) = elim (cases_eq m (i + 1)) [
  | inl same ↦
      let zero_weight : right ≡ 0 = elim of_right [ inl w ↦ absurd (none (subst P (sym same) w.1)) | inr w ↦ w.0 ] in
      omega (arith, zero_weight, weight_counted P i left m count (omega (arith, same)) of_left counted)
  | inr other ↦ two_counted P i left right m count (omega (arith, other)) of_left of_right counted
]
