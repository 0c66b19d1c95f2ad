-- A held block that is at least as wide as a block of the machine has all of it or nothing.
use Rattle.std.proofs.Common.{◌≡◌, ℕ, zero, suc, ◌+◌, ◌-◌, ◌/◌, ◌^◌, ◌<◌, ◌≤◌, ◌⊎◌, inl, inr, Option, Some, None, refl, sym, ◌∙◌, ap, subst, arith}
use Rattle.std.proofs.lemmas.Bool.{cases_eq, cases_lt}
use Rattle.std.proofs.lemmas.Nat.{shr-shr, shr_below}
use Rattle.cube_shape.specs.declared.region.Region.{Region}
use Rattle.cube_shape.specs.Region.{Covers, IsAligned, block}
use Rattle.cube_shape.specs.Machine.{Gives, HasNoFit, Holdings, IsFree, IsLawful, TakesBack}
use Rattle.cube_shape.proofs.RegionLemmas.{Covers-block}
use Rattle.cube_shape.proofs.MachineLemmas.{IsLawful-none, IsLawful-gives, IsLawful-takes_back}
use Rattle.cube_shape.specs.Falling.{HasStations, HoldsNoNarrower, IsFreeProcessor, IsFull, IsHeld, ServesFalling, begins, takes, refuses, releases}

-- two processors of one block of dimension `k` are in the same blocks that are no narrower
Covers-wider : (n k m p q : ℕ) (a : Region)
    → IsAligned n a
    → k ≤ a.dim
    → p / 2 ^ k ≡ m
    → q / 2 ^ k ≡ m
    → Covers a q
    → Covers a p
Covers-wider n k m p q a (fits, (j, within, is)) wide p_in q_in covers =
    let d = a.dim in
    let up : k + (d - k) ≡ d = omega arith in
    let of_q : q / 2 ^ d ≡ j = (Covers-block d j q).0 (subst (λ r. Covers r q) is covers) in
    let high : (x : ℕ) → x / 2 ^ d ≡ x / 2 ^ k / 2 ^ (d - k) = (λ x. ap (λ e. x / 2 ^ e) (sym up) ∙ sym (shr-shr x k (d - k))) in
    let of_p : p / 2 ^ d ≡ j = high p ∙ ap (λ x. x / 2 ^ (d - k)) (p_in ∙ sym q_in) ∙ sym (high q) ∙ of_q in
    subst (λ r. Covers r p) (sym is) ((Covers-block d j p).1 of_p)

-- a block with a free processor is free, if no held block is narrower
IsFree-of : (n k p : ℕ) (held : Holdings)
    → IsLawful n held
    → HoldsNoNarrower k held
    → IsFreeProcessor held p
    → IsFree held (block k (p / 2 ^ k))
IsFree-of n k p held lawful wide free t a is q in_a in_block =
    free t a is (Covers-wider n k (p / 2 ^ k) p q a (lawful.aligned t a is) (wide t a is) refl ((Covers-block k (p / 2 ^ k) q).0 in_block) in_a)

pub IsFull-of : (n k : ℕ) (held : Holdings)
    → IsLawful n held
    → HoldsNoNarrower k held
    → k ≤ n
    → HasNoFit n k held
    → IsFull n held
IsFull-of n k held lawful wide fits none p within free =
    let parts : n - k + k ≡ n = omega arith in
    let below : p < 2 ^ (n - k + k) = subst (λ e. p < 2 ^ e) (sym parts) within in
    none (p / 2 ^ k) (shr_below p (n - k) k below) (IsFree-of n k p held lawful wide free)

none_is_some : {a : Region} → ◌≡◌ {A = Option Region} None (Some a) → ⊥
none_is_some e = cc

same : {a b : Region} → ◌≡◌ {A = Option Region} (Some a) (Some b) → a ≡ b
same e = cc

HoldsNoNarrower-gives : (n s k j : ℕ) (old new : Holdings) (r : Region)
    → HoldsNoNarrower k old
    → j ≤ k
    → Gives n s j old new r
    → HoldsNoNarrower j new
HoldsNoNarrower-gives n s k j old new r wide le gives t a is = elim (cases_eq t s) [
  | inl at ↦
      let given : r ≡ a = same (sym gives.held ∙ ap new (sym at) ∙ is) in
      let dim : a.dim ≡ j = ap (λ (x : Region). x.dim) (sym given) ∙ gives.dimension in
      omega arith
  | inr other ↦ let held = wide t a (sym (gives.others t other) ∙ is) in omega arith
]

HoldsNoNarrower-takes_back : (s k : ℕ) (old new : Holdings) (r : Region)
    → HoldsNoNarrower k old
    → TakesBack s old new r
    → HoldsNoNarrower k new
HoldsNoNarrower-takes_back s k old new r wide back t a is = elim (cases_eq t s) [
  | inl at ↦ absurd (none_is_some (sym back.idle ∙ ap new (sym at) ∙ is))
  | inr other ↦ wide t a (sym (back.others t other) ∙ is)
]

pub ServesFalling-lawful : (n k : ℕ) (held : Holdings) → ServesFalling n k held → IsLawful n held
ServesFalling-lawful n _ _ (begins k held idle) = IsLawful-none n held idle
ServesFalling-lawful n _ _ (takes k j s old new r serves le gives) =
    IsLawful-gives n s j old new r (ServesFalling-lawful n k old serves) gives
ServesFalling-lawful n _ _ (refuses k j held serves le) = ServesFalling-lawful n k held serves
ServesFalling-lawful n _ _ (releases k s old new r serves back) =
    IsLawful-takes_back n s old new r (ServesFalling-lawful n k old serves) back

pub ServesFalling-wide : (n k : ℕ) (held : Holdings) → ServesFalling n k held → HoldsNoNarrower k held
ServesFalling-wide n _ _ (begins k held idle) = λ s a is. absurd (none_is_some (sym (idle s) ∙ is))
ServesFalling-wide n _ _ (takes k j s old new r serves le gives) =
    HoldsNoNarrower-gives n s k j old new r (ServesFalling-wide n k old serves) le gives
ServesFalling-wide n _ _ (refuses k j held serves le) =
    λ s a is. let wide = ServesFalling-wide n k held serves s a is in omega arith
ServesFalling-wide n _ _ (releases k s old new r serves back) =
    HoldsNoNarrower-takes_back s k old new r (ServesFalling-wide n k old serves) back

-- ---- a machine with finitely many stations

covers_or_not : (o : Option Region) (p : ℕ)
    → ((a : Region) × (o ≡ Some a) × Covers a p) ⊎ ((a : Region) → o ≡ Some a → Covers a p → ⊥)
covers_or_not None p = inr (λ a is. absurd (none_is_some is))
covers_or_not (Some b) p = elim (cases_lt p b.base) [
  | inl before ↦ inr (λ a is in_a. let base = ap (λ (x : Region). x.base) (same is) in omega (arith, in_a.0))
  | inr from ↦ elim (cases_lt p (b.base + 2 ^ b.dim)) [
    | inl within ↦ inl (b, refl, (from, within))
    | inr past ↦ inr (λ a is in_a. let end = ap (λ (x : Region). x.base + 2 ^ x.dim) (same is) in omega (arith, in_a.1))
  ]
]

held_or_not : (held : Holdings) (p count : ℕ)
    → IsHeld held p ⊎ ((s : ℕ) → s < count → (a : Region) → held s ≡ Some a → Covers a p → ⊥)
held_or_not held p zero = inr (λ s below. absurd (omega arith))
held_or_not held p (suc count) = elim (held_or_not held p count) [
  | inl is ↦ inl is
  | inr none ↦ elim (covers_or_not (held count) p) [
    | inl found ↦ inl (count, found.0, found.1, found.2)
    | inr free ↦ inr (λ s below. elim (cases_eq s count) [
      | inl at ↦ subst (λ x. (a : Region) → held x ≡ Some a → Covers a p → ⊥) (sym at) free
      | inr other ↦ none s (omega arith)
    ])
  ]
]

pub IsHeld-of_full : (n count : ℕ) (held : Holdings)
    → HasStations count held
    → IsFull n held
    → (p : ℕ)
    → p < 2 ^ n
    → IsHeld held p
IsHeld-of_full n count held stations full p within = elim (held_or_not held p count) [
  | inl is ↦ is
  | inr none ↦ absurd (full p within (λ s a is covers. elim (cases_lt s count) [
    | inl below ↦ none s below a is covers
    | inr past ↦ none_is_some (sym (stations s past) ∙ is)
  ]))
]
