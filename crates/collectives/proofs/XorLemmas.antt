-- Ranks seen from a root: rank v is at bit_xor v root.
use Rattle.std.proofs.Common.{◌≡◌, ℕ, ◌+◌, ◌-◌, ◌*◌, ◌^◌, ◌<◌, inl, inr, List, sym, ◌∙◌, ap, arith}
use Rattle.std.specs.Prelude.{slice_get, bit_and, bit_xor}
use Rattle.std.proofs.lemmas.Bool.{cases_lt}
use Rattle.std.specs.Int.Bits.{xor_self, xor_zero_l, xor_zero_r, xor_disjoint}
use Rattle.std.proofs.lemmas.Nat.{xor_lt, pow-add}
use Rattle.std.proofs.lemmas.Nat.Bits.{and_pow, bit_at_above}
use Rattle.collectives.specs.Inner.Rounds.{Doubles}
use Rattle.collectives.specs.Inner.OperationLaws.{xor_assoc}

pub xor_back : (a b : ℕ) → bit_xor (bit_xor a b) b ≡ a
xor_back a b = xor_assoc a b b ∙ ap (bit_xor a) (xor_self b) ∙ xor_zero_r a

-- two ranks at one place are one
pub xor_once : (a b root : ℕ) → bit_xor a root ≡ bit_xor b root → a ≡ b
xor_once a b root same = sym (xor_back a root) ∙ ap (λ x. bit_xor x root) same ∙ xor_back b root

-- to add a power of two above all bits is to set its bit
pub add_is_xor : (v i : ℕ) → v < 2 ^ i → v + 2 ^ i ≡ bit_xor v (2 ^ i)
add_is_xor v i small =
    let clear : bit_and v (2 ^ i) ≡ 0 = and_pow v i ∙ ap (λ b. b * 2 ^ i) (bit_at_above v i i small (omega arith)) ∙ omega arith in
    sym (xor_disjoint v (2 ^ i) clear)

-- the first `count` ranks, seen from the root, hold the root's item
abbrev pub HoldsRoot : {M : Type 0} → ℕ → ℕ → List M → List M → Type 0
HoldsRoot root count old items = (v : ℕ) → v < count → slice_get items (bit_xor v root) ≡ slice_get old root

pub HoldsRoot-start : {M : Type 0} (root : ℕ) (items : List M) → HoldsRoot root 1 items items
HoldsRoot-start root items v first =
    let none : v ≡ 0 = omega arith in
    ap (λ x. slice_get items (bit_xor x root)) none ∙ ap (slice_get items) (xor_zero_l root)

-- a round of the broadcast
pub HoldsRoot-round : {M : Type 0} (root i half : ℕ) (old items next : List M)
    → half ≡ 2 ^ i
    → HoldsRoot root (2 ^ i) old items
    → Doubles root half items next
    → HoldsRoot root (2 ^ (i + 1)) old next
HoldsRoot-round root i half old items next half_is before doubled v within = elim (cases_lt v half) [
  | inl low ↦ (doubled v low).0 ∙ before v (omega arith)
  | inr high ↦ (
      let twice = pow-add 2 i 1 in
      let low : v - half < half = omega arith in
      let back : v ≡ (v - half) + half = omega arith in
      ap (λ x. slice_get next (bit_xor x root)) back ∙ (doubled (v - half) low).1 ∙ before (v - half) (omega arith))
]

pub HoldsRoot-all : {M : Type 0} (root k : ℕ) (old items : List M)
    → root < 2 ^ k
    → HoldsRoot root (2 ^ k) old items
    → (rank : ℕ)
    → rank < 2 ^ k
    → slice_get items rank ≡ slice_get old root
HoldsRoot-all root k old items root_within before rank within =
    ap (slice_get items) (sym (xor_back rank root)) ∙ before (bit_xor rank root) (xor_lt k rank root within root_within)
