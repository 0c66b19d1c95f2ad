-- Masks: the bits of a word from an offset on, and the runs that they stand for.
use Rattle.std.proofs.Common.{inl, inr, ◌≡◌, ◌≢◌, ℕ, ◌+◌, ◌-◌, ◌*◌, ◌/◌, ◌%◌, ◌^◌, ◌<◌, ◌≤◌, min, bit_and, bit_or, List, [], ◌∷◌, sym, ◌∙◌, ap, subst, arith}
use Rattle.std.specs.Int.{bit_at}
use Rattle.std.proofs.lemmas.Bool.{cases_lt}
use Rattle.std.proofs.lemmas.Nat.{one_shl, pow_pos, div-add-mod', row_fits, mod_low}
use Rattle.std.proofs.Math.Nat.{mod-eq_of_lt}
use Rattle.std.proofs.Math.Pow.{pow_mono}
use Rattle.std.proofs.lemmas.Nat.Bits.{ones_shr, bit_at_and, bit_at_or, bit_at-zero, bit_at_mask_inside, bit_at_mask_below, bit_at_mask_above, bit_at-lt}
use Rattle.ghost_history.specs.Lists.{rest_of}
use lib.Pow.{high_ones, pow-sub-lt}
use Rattle.bitmap_tree.specs.declared.view.Run.{Run}
use Rattle.bitmap_tree.specs.Rule.{run, has}
use Rattle.bitmap_tree.specs.InnerSteps.{Changes}

-- a region of dimension k at most 6 has at most 64 processors
pub size_le : (k : ℕ) → k ≤ 6 → 2 ^ k ≤ 64
size_le k small = pow_mono small

-- what the code computes
pub mask_is : (o k : ℕ)
    → k ≤ 6
    → o + 2 ^ k ≤ 64
    → 18446744073709551615 / 2 ^ (64 - 1 * 2 ^ k % 4294967296) * 2 ^ o % 18446744073709551616
    ≡ 2 ^ (o + 2 ^ k) - 2 ^ o
mask_is o k small within =
    let L : ℕ = 2 ^ k in
    let most : 2 ^ k ≤ 64 = size_le k small in
    let some : 0 < 2 ^ k = pow_pos k in
    let shift : 1 * 2 ^ k % 4294967296 ≡ 2 ^ k = one_shl k 32 (omega arith) in
    let ones : 18446744073709551615 / 2 ^ (64 - 2 ^ k) ≡ 2 ^ (64 - (64 - 2 ^ k)) - 1 = ones_shr 64 (64 - 2 ^ k) (omega arith) in
    let back : 64 - (64 - 2 ^ k) ≡ 2 ^ k = omega arith in
    let order : 2 ^ k + o ≡ o + 2 ^ k = omega arith in
    let fits : 2 ^ (o + 2 ^ k) ≤ 2 ^ 64 = pow_mono within in
    let low : 2 ^ (o + 2 ^ k) - 2 ^ o < 2 ^ (o + 2 ^ k) = pow-sub-lt (o + 2 ^ k) (pow_pos o) in
    let number : 18446744073709551615 / 2 ^ (64 - 1 * 2 ^ k % 4294967296) * 2 ^ o ≡ 2 ^ (o + 2 ^ k) - 2 ^ o =
    ap (λ s. 18446744073709551615 / 2 ^ (64 - s) * 2 ^ o) shift ∙ ap (λ x. x * 2 ^ o) (ones ∙ ap (λ s. 2 ^ s - 1) back) ∙ sym (high_ones (2 ^ k) o) ∙ ap (λ s. 2 ^ s - 2 ^ o) order in
    ap (λ x. x % 18446744073709551616) number ∙ mod-eq_of_lt (omega (arith, low, fits))

-- the bits of a mask are the processors of the run
pub mask_bit : (o L j : ℕ) → bit_at (2 ^ (o + L) - 2 ^ o) j ≡ has j (run o L)
mask_bit o L j = elim (cases_lt j o) [
  | inl before ↦ omega (arith, bit_at_mask_below o (o + L) j before)
  | inr from ↦ elim (cases_lt j (o + L)) [
    | inl inside ↦ omega (arith, bit_at_mask_inside o (o + L) j from inside)
    | inr past ↦ omega (arith, bit_at_mask_above o (o + L) j past)
  ]
]

-- a number is its word's 64 and its place in it
pub place : (p : ℕ) → p / 64 * 64 + p % 64 ≡ p
place p = div-add-mod' p 64

-- a run in a word, by the places in it
pub has_here : (i o L p : ℕ) → p / 64 ≡ i → has p (run (64 * i + o) L) ≡ has (p % 64) (run o L)
has_here i o L p at = let parts = place p in let q : ℕ = p / 64 in let r : ℕ = p % 64 in let sum : q * 64 + r ≡ p = parts in let same : q ≡ i = at in omega arith

pub has_there : (i o L p : ℕ) → o + L ≤ 64 → p / 64 ≢ i → has p (run (64 * i + o) L) ≡ 0
has_there i o L p within other = let q : ℕ = p / 64 in let r : ℕ = p % 64 in let sum : q * 64 + r ≡ p = place p in let less : r < 64 = omega arith in let ne : q ≢ i = other in elim (cases_lt q i) [
  | inl before ↦ omega arith
  | inr from ↦ let past : i < q = omega (arith, ne) in omega arith
]

-- an empty run has no processor
pub has_none : (b p : ℕ) → has p (run b 0) ≡ 0
has_none b p = omega arith

-- where the bits of the mask are clear, to set them adds the run
pub set_bit : (old o L j : ℕ)
    → bit_and old (2 ^ (o + L) - 2 ^ o) ≡ 0
    → bit_at (bit_or old (2 ^ (o + L) - 2 ^ o)) j ≡ bit_at old j + has j (run o L)
set_bit old o L j clear =
    let m : ℕ = 2 ^ (o + L) - 2 ^ o in
    let none : min (bit_at old j) (bit_at (2 ^ (o + L) - 2 ^ o) j) ≡ 0 = sym (bit_at_and old (2 ^ (o + L) - 2 ^ o) j) ∙ ap (λ x. bit_at x j) clear ∙ bit_at-zero j in
    omega (arith, bit_at_or old (2 ^ (o + L) - 2 ^ o) j, none, mask_bit o L j, bit_at-lt old j)

-- a run within a word is claimed, by a seat with an empty one
pub claims_small : (i o L old b : ℕ)
    → o + L ≤ 64
    → bit_and old (2 ^ (o + L) - 2 ^ o) ≡ 0
    → Changes i old (bit_or old (2 ^ (o + L) - 2 ^ o)) (run b 0 ∷ []) (run (64 * i + o) L ∷ [])
claims_small i o L old b within clear = record {
  here = λ p at. omega (arith, has_here i o L p at, has_none b p, set_bit old o L (p % 64) clear);
  there = λ p other. omega (arith, has_there i o L p within other, has_none b p);
}

-- the same as the code has it
pub claims_in : (i o k old mask : ℕ) (runs : List Run) (b : ℕ)
    → k ≤ 6
    → runs ≡ run b 0 ∷ []
    → mask ≡ 2 ^ (o + 2 ^ k) - 2 ^ o
    → o + 2 ^ k ≤ 64
    → bit_and old (2 ^ (o + 2 ^ k) - 2 ^ o) ≡ 0
    → Changes i old (bit_or old mask) runs
    (run (64 * i + o) (1 * 2 ^ k % 18446744073709551616) ∷ rest_of runs)
claims_in i o k old mask runs b small blank is within clear =
    let size : 1 * 2 ^ k % 18446744073709551616 ≡ 2 ^ k = one_shl k 64 (omega arith) in
    let known : Changes i old (bit_or old (2 ^ (o + 2 ^ k) - 2 ^ o)) (run b 0 ∷ []) (run (64 * i + o) (2 ^ k) ∷ []) = claims_small i o (2 ^ k) old b within clear in
    subst (λ rs. Changes i old (bit_or old mask) rs (run (64 * i + o) (1 * 2 ^ k % 18446744073709551616) ∷ rest_of rs)) (sym blank)
    (subst (λ L. Changes i old (bit_or old mask) (run b 0 ∷ []) (run (64 * i + o) L ∷ [])) (sym size)
    (subst (λ x. Changes i old (bit_or old x) (run b 0 ∷ []) (run (64 * i + o) (2 ^ k) ∷ [])) (sym is) known))

-- ---- an offset that is found

pub finds : (word size k i mask : ℕ)
    → k ≤ 6
    → size ≤ 64
    → i < size / 2 ^ k
    → mask ≡ 2 ^ (i * 2 ^ k % 4294967296 + 2 ^ k) - 2 ^ (i * 2 ^ k % 4294967296)
    → bit_and word mask ≡ 0
    → (i * 2 ^ k % 4294967296 % 2 ^ k ≡ 0) × (i * 2 ^ k % 4294967296 + 2 ^ k ≤ size)
    × (bit_and word (2 ^ (i * 2 ^ k % 4294967296 + 2 ^ k) - 2 ^ (i * 2 ^ k % 4294967296)) ≡ 0)
finds word size k i mask small limit within is clear =
    let some : 0 < 2 ^ k = pow_pos k in
    let rows : i * 2 ^ k + 2 ^ k ≤ size / 2 ^ k * 2 ^ k = row_fits i (2 ^ k) (size / 2 ^ k) (2 ^ k) within (omega arith) in
    let parts : size / 2 ^ k * 2 ^ k + size % 2 ^ k ≡ size = div-add-mod' size (2 ^ k) in
    let most : i * 2 ^ k + 2 ^ k ≤ size = omega arith in
    let value : i * 2 ^ k % 4294967296 ≡ i * 2 ^ k = mod-eq_of_lt (omega arith) in
    let whole : i * 2 ^ k ≡ i * 2 ^ k + 0 = omega arith in
    let aligned : i * 2 ^ k % 2 ^ k ≡ 0 = ap (λ x. x % 2 ^ k) whole ∙ mod_low i k 0 some in
    (ap (λ x. x % 2 ^ k) value ∙ aligned, omega arith, ap (bit_and word) (sym is) ∙ clear)
