-- Bits represent holdings, and a take or a release keeps that.
use Rattle.std.proofs.Common.{◌≡◌, ◌≢◌, ℕ, ◌+◌, ◌-◌, ◌^◌, ◌<◌, ◌≤◌, ◌⊎◌, inl, inr, Bool, true, false, List, length, Option, Some, None, sym, ◌∙◌, ap, subst, arith}
use Rattle.std.proofs.lemmas.Bool.{cases_lt, cases_eq, true≢false}
use Rattle.alloc_bits.specs.declared.limits.TheConstants.{MAX_BITS_DIM}
use Rattle.cube_shape.specs.declared.region.Region.{Region}
use Rattle.cube_shape.specs.Region.{Covers, IsAligned, block}
use Rattle.cube_shape.specs.Machine.{Holdings, IsFree, Gives, TakesBack, IsFirstFit, HasNoFit}
use Rattle.cube_shape.proofs.RegionLemmas.{IsAligned-block}
use Rattle.cube_shape.proofs.MachineLemmas.{IsLawful-none, IsLawful-gives, IsLawful-takes_back}
use Rattle.alloc_bits.specs.Represents.{bit_of, Represents}
use Rattle.alloc_bits.specs.Bits.{IsClear, IsFirstClear}

none_is_some : {a : Region} → ◌≡◌ {A = Option Region} None (Some a) → ⊥
none_is_some e = cc

-- bits of which none is set represent a machine whose stations hold nothing
pub Represents-new : (n : ℕ) (held : Holdings) (bits : List Bool)
    → n ≤ MAX_BITS_DIM
    → 2 ^ n ≤ length bits
    → ((p : ℕ) → bit_of bits p ≡ false)
    → ((s : ℕ) → held s ≡ None)
    → Represents n held bits
Represents-new n held bits fits enough clear idle = record {
  dim_in_limits = fits;
  bit_count = enough;
  lawful = IsLawful-none n held idle;
  set = λ s p a is inside. absurd (none_is_some (sym (idle s) ∙ is));
  clear = λ p free. clear p;
}

module _ (n : ℕ) (held : Holdings) (bits : List Bool) (represents : Represents n held bits) where
  -- a region is clear exactly if it is apart from every held one
  pub free_from_clear : (r : Region) → IsClear bits r → IsFree held r
  free_from_clear r clear s a is p in_a in_r = true≢false (sym (represents.set s p a is in_a) ∙ clear p in_r)

  pub clear_from_free : (r : Region) → IsFree held r → IsClear bits r
  clear_from_free r free p in_r = represents.clear p (λ s a is in_a. free s a is p in_a in_r)

  pub no_fit : (k : ℕ)
      → ((m : ℕ) → m < 2 ^ (n - k) → IsClear bits (block k m) → ⊥)
      → HasNoFit n k held
  no_fit k none m within free = none m within (clear_from_free (block k m) free)

  pub first_fit : (k m : ℕ) → IsFirstClear n k bits m → IsFirstFit n k held m
  first_fit k m first = record {
    in_cube = first.in_cube;
    free = free_from_clear (block k m) first.clear;
    least = λ i less free. first.least i less (clear_from_free (block k i) free);
  }

-- a station that holds nothing and gets the first fit is given it
pub Gives-first_fit : (n k m station : ℕ) (old new : Holdings) (r : Region)
    → k ≤ n
    → old station ≡ None
    → r ≡ block k m
    → IsFirstFit n k old m
    → new station ≡ Some r
    → ((s : ℕ) → s ≢ station → new s ≡ old s)
    → Gives n station k old new r
Gives-first_fit n k m station old new r fits idle is first own others = record {
  idle = idle;
  aligned = subst (IsAligned n) (sym is) (IsAligned-block n k m fits first.in_cube);
  dimension = ap (λ (x : Region). x.dim) is;
  apart = subst (IsFree old) (sym is) first.free;
  held = own;
  others = others;
}

-- a processor is in a region or not
in_or_out : (r : Region) (p : ℕ) → Covers r p ⊎ (Covers r p → ⊥)
in_or_out r p = elim (cases_lt p r.base) [
  | inl below ↦ inr (λ inside. omega (arith, inside.0))
  | inr from ↦ elim (cases_lt p (r.base + 2 ^ r.dim)) [
    | inl before ↦ inl (from, before)
    | inr past ↦ inr (λ inside. omega (arith, inside.1))
  ]
]

same_region : {a b : Region} → ◌≡◌ {A = Option Region} (Some a) (Some b) → a ≡ b
same_region e = cc

module _ (n station : ℕ) (old new : Holdings) (bits bits' : List Bool) (r : Region) (same_length : length bits' ≡ length bits)
    (outside : (p : ℕ) → (Covers r p → ⊥) → bit_of bits' p ≡ bit_of bits p) (represents : Represents n old bits) where
  enough : 2 ^ n ≤ length bits'
  enough = subst (λ x. 2 ^ n ≤ x) (sym same_length) represents.bit_count

  -- a station was given the region, and its bits were set
  pub Represents-given : (k : ℕ)
      → Gives n station k old new r
      → ((p : ℕ) → Covers r p → bit_of bits' p ≡ true)
      → Represents n new bits'
  Represents-given k gives inside = record {
    dim_in_limits = represents.dim_in_limits;
    bit_count = enough;
    lawful = IsLawful-gives n station k old new r represents.lawful gives;
    set = set;
    clear = clear;
  }
    where
      set : (s p : ℕ) (a : Region) → new s ≡ Some a → Covers a p → bit_of bits' p ≡ true
      set s p a is in_a = elim (cases_eq s station) [
        | inl at ↦
            let a_is : r ≡ a = same_region (sym gives.held ∙ ap new (sym at) ∙ is) in
            inside p (subst (λ x. Covers x p) (sym a_is) in_a)
        | inr other ↦
            let was : old s ≡ Some a = sym (gives.others s other) ∙ is in
            outside p (gives.apart s a was p in_a) ∙ represents.set s p a was in_a
      ]

      clear : (p : ℕ)
          → ((s : ℕ) (a : Region) → new s ≡ Some a → Covers a p → ⊥)
          → bit_of bits' p ≡ false
      clear p free =
          outside p (free station r gives.held) ∙ represents.clear p (λ s a was in_a. elim (cases_eq s station) [
            | inl at ↦ none_is_some (sym gives.idle ∙ ap old (sym at) ∙ was)
            | inr other ↦ free s a (gives.others s other ∙ was) in_a
          ])

  -- the region was taken back from its station, and its bits were cleared
  pub Represents-taken_back : TakesBack station old new r
      → ((p : ℕ) → Covers r p → bit_of bits' p ≡ false)
      → Represents n new bits'
  Represents-taken_back back inside = record {
    dim_in_limits = represents.dim_in_limits;
    bit_count = enough;
    lawful = IsLawful-takes_back n station old new r represents.lawful back;
    set = set;
    clear = clear;
  }
    where
      set : (s p : ℕ) (a : Region) → new s ≡ Some a → Covers a p → bit_of bits' p ≡ true
      set s p a is in_a = elim (cases_eq s station) [
        | inl at ↦ absurd (none_is_some (sym back.idle ∙ ap new (sym at) ∙ is))
        | inr other ↦
            let was : old s ≡ Some a = sym (back.others s other) ∙ is in
            outside p (represents.lawful.apart s station a r other was back.held p in_a) ∙ represents.set s p a was in_a
      ]

      clear : (p : ℕ)
          → ((s : ℕ) (a : Region) → new s ≡ Some a → Covers a p → ⊥)
          → bit_of bits' p ≡ false
      clear p free = elim (in_or_out r p) [
        | inl in_r ↦ inside p in_r
        | inr out ↦ outside p out ∙ represents.clear p (λ s a was in_a. elim (cases_eq s station) [
          | inl at ↦
              let a_is : r ≡ a = same_region (sym back.held ∙ ap old (sym at) ∙ was) in
              out (subst (λ x. Covers x p) (sym a_is) in_a)
          | inr other ↦ free s a (back.others s other ∙ was) in_a
        ])
      ]
