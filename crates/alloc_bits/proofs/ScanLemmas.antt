-- The search over the bases of the aligned regions of a dimension, in order.
use Rattle.std.proofs.Common.{◌≡◌, ℕ, ◌+◌, ◌-◌, ◌*◌, ◌/◌, ◌%◌, ◌^◌, ◌<◌, ◌≤◌, inl, inr, Bool, List, sym, ◌∙◌, ap, subst, arith}
use Rattle.std.proofs.lemmas.Bool.{cases_lt}
use Rattle.std.proofs.lemmas.Nat.{div-add-mod', pow_pos, pow-add}
use Rattle.std.proofs.Math.Nat.{div-lt_iff_lt-mul, lt_of_mul-lt-mul_right, mul-lt-mul_of_pos_right}
use Rattle.cube_shape.specs.declared.region.Region.{Region}
use Rattle.cube_shape.specs.Region.{IsAligned, block}
use Rattle.alloc_bits.specs.Bits.{IsClear, IsFirstClear}

-- as many regions of dimension k as there are fill the machine
all_regions : (n k : ℕ) → k ≤ n → 2 ^ (n - k) * 2 ^ k ≡ 2 ^ n
all_regions n k fits =
    let parts : n - k + k ≡ n = omega arith in
    sym (pow-add 2 (n - k) k) ∙ ap (λ i. 2 ^ i) parts

-- a base is its number times the size
base_is : (k base : ℕ) → base % 2 ^ k ≡ 0 → base ≡ base / 2 ^ k * 2 ^ k
base_is k base begins =
    let parts : base / 2 ^ k * 2 ^ k + base % 2 ^ k ≡ base = div-add-mod' base (2 ^ k) in
    omega (arith, parts, begins)

pub block_is : (k base : ℕ)
    → base % 2 ^ k ≡ 0
    → ◌≡◌ {A = Region} (record { base = base; dim = k }) (block k (base / 2 ^ k))
block_is k base begins = ap (λ b. record { base = b; dim = k }) (base_is k base begins)

number_within : (n k base : ℕ) → k ≤ n → base < 2 ^ n → base / 2 ^ k < 2 ^ (n - k)
number_within n k base fits within = (div-lt_iff_lt-mul (pow_pos k)).1 (subst (λ x. base < x) (sym (all_regions n k fits)) within)

pub IsAligned-at : (n k base : ℕ)
    → k ≤ n
    → base < 2 ^ n
    → base % 2 ^ k ≡ 0
    → IsAligned n (record { base = base; dim = k })
IsAligned-at n k base fits within begins = (fits, (base / 2 ^ k, number_within n k base fits within, block_is k base begins))

module _ (n k base : ℕ) (bits : List Bool)
    (before : (i : ℕ) → i * 2 ^ k < base → IsClear bits (block k i) → ⊥) where
  earlier : base % 2 ^ k ≡ 0 → (i : ℕ) → i < base / 2 ^ k → i * 2 ^ k < base
  earlier begins i less = subst (λ x. i * 2 ^ k < x) (sym (base_is k base begins)) (mul-lt-mul_of_pos_right less (pow_pos k))

  -- no region before this one was clear, and this one is
  pub IsFirstClear-at : k ≤ n
      → base < 2 ^ n
      → base % 2 ^ k ≡ 0
      → IsClear bits (record { base = base; dim = k })
      → IsFirstClear n k bits (base / 2 ^ k)
  IsFirstClear-at fits within begins clear = record {
    in_cube = number_within n k base fits within;
    clear = subst (IsClear bits) (block_is k base begins) clear;
    least = λ i less. before i (earlier begins i less);
  }

  -- nor is this one
  pub before_next : base % 2 ^ k ≡ 0
      → (IsClear bits (record { base = base; dim = k }) → ⊥)
      → (i : ℕ)
      → i * 2 ^ k < base + 2 ^ k
      → IsClear bits (block k i)
      → ⊥
  before_next begins taken i below clear = elim (cases_lt i (base / 2 ^ k)) [
    | inl less ↦ before i (earlier begins i less) clear
    | inr from ↦
        let end : i * 2 ^ k < (base / 2 ^ k + 1) * 2 ^ k = omega (arith, below, base_is k base begins) in
        let least : i < base / 2 ^ k + 1 = lt_of_mul-lt-mul_right (2 ^ k) end in
        let same : i ≡ base / 2 ^ k = omega (arith, from, least) in
        taken (subst (IsClear bits) (ap (block k) same ∙ sym (block_is k base begins)) clear)
  ]

  -- no region of the machine was clear
  pub none_clear : k ≤ n → 2 ^ n ≤ base → (m : ℕ) → m < 2 ^ (n - k) → IsClear bits (block k m) → ⊥
  none_clear fits past m within =
      let rows : m * 2 ^ k < 2 ^ (n - k) * 2 ^ k = mul-lt-mul_of_pos_right within (pow_pos k) in
      before m (omega (arith, rows, all_regions n k fits, past))
