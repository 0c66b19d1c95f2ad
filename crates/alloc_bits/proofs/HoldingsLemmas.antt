-- The slots represent the pairs, and slots and bits that were written are consistent.
use Rattle.std.proofs.Common.{◌≡◌, ℕ, ◌^◌, ◌≤◌, inl, inr, Bool, false, List, ◌++◌, length, take, drop, replicate, Option, None, sym, ◌∙◌, ap, subst, arith}
use Rattle.std.specs.FinMap.{get}
use Rattle.std.proofs.lemmas.Bool.{cases_lt}
use Rattle.std.proofs.Math.Seq.{take-append_seam}
use Rattle.std.proofs.lemmas.List.{get_or-replicate, get_or_past, length-replicate}
use Rattle.cube_shape.specs.declared.limits.TheConstants.{MAX_STATIONS}
use Rattle.alloc_bits.specs.declared.limits.TheConstants.{MAX_BITS_DIM}
use Rattle.cube_shape.specs.declared.region.Region.{Region}
use Rattle.cube_shape.specs.Machine.{Holdings}
use Rattle.alloc_bits.specs.Represents.{Represents, bit_of}
use Rattle.alloc_bits.proofs.RepresentsLemmas.{Represents-new}
use Rattle.alloc_bits.specs.Allocation.{Allocation, held_in}
use Rattle.alloc_bits.specs.Inner.{slot_of, pairs_of, IsConsistent}
use Rattle.alloc_bits.proofs.SlotLemmas.{get-pairs_of}

-- what the pairs say of every station is what the slots say
pub holdings_are : (slots : List (Option Region)) → get (pairs_of slots) ≡ slot_of slots
holdings_are slots = λ i station. get-pairs_of slots station i

-- so what holds for the dimension and the slots holds for the allocation that they represent
pub of_slots : (P : ℕ → Holdings → Type 0) (dim : ℕ) (slots : List (Option Region)) (a : Allocation)
    → ◌≡◌ {A = Allocation} (record { dim = dim; pairs = pairs_of slots }) a
    → P dim (slot_of slots)
    → P a.dim (held_in a)
of_slots P dim slots a is holds = subst (λ x. P x.dim (held_in x)) is (subst (P dim) (sym (holdings_are slots)) holds)

-- and conversely
pub to_slots : (P : ℕ → Holdings → Type 0) (dim : ℕ) (slots : List (Option Region)) (a : Allocation)
    → ◌≡◌ {A = Allocation} (record { dim = dim; pairs = pairs_of slots }) a
    → P a.dim (held_in a)
    → P dim (slot_of slots)
to_slots P dim slots a is holds = subst (P dim) (holdings_are slots) (subst (λ x. P x.dim (held_in x)) (sym is) holds)

-- at first no slot has a region and no bit is set
pub slot_of-empty : (n s : ℕ) → slot_of (replicate n None) s ≡ None
slot_of-empty n s = elim (cases_lt s n) [
  | inl within ↦ get_or-replicate n s None None within
  | inr past ↦ get_or_past (replicate n None) s None (simp length-replicate past)
]

bit_of-empty : (n p : ℕ) → bit_of (replicate n false) p ≡ false
bit_of-empty n p = elim (cases_lt p n) [
  | inl within ↦ get_or-replicate n p false false within
  | inr past ↦ get_or_past (replicate n false) p false (simp length-replicate past)
]

pub IsConsistent-made : (n : ℕ) (slots : List (Option Region)) (bits : List Bool)
    → n ≤ MAX_BITS_DIM
    → slots ≡ replicate MAX_STATIONS None
    → bits ≡ replicate (2 ^ n) false
    → IsConsistent n slots bits
IsConsistent-made n slots bits fits empty clear =
    subst (λ xs. IsConsistent n xs bits) (sym empty) (subst (IsConsistent n (replicate MAX_STATIONS None)) (sym clear) record {
      slot_count = length-replicate {A = Option Region} MAX_STATIONS None;
      represents = Represents-new n (slot_of (replicate MAX_STATIONS None)) (replicate (2 ^ n) false) fits (omega (arith, length-replicate (2 ^ n) false)) (bit_of-empty (2 ^ n)) (slot_of-empty MAX_STATIONS);
    })

-- a list of which all items were written is what was written
pub all_written : {A : Type 0} (n : ℕ) (old new : List A)
    → n ≡ length old
    → length new ≡ length old
    → take n (new ++ drop (length new) old) ≡ new
all_written n old new is same = ap (λ k. take k (new ++ drop (length new) old)) (is ∙ sym same) ∙ take-append_seam new (drop (length new) old)

-- so what the pairs of the slots say once they were all written is what was written
pub holdings_written : (n : ℕ) (old new : List (Option Region))
    → n ≡ length old
    → length new ≡ length old
    → get (pairs_of (take n (new ++ drop (length new) old))) ≡ slot_of new
holdings_written n old new is same = holdings_are _ ∙ ap slot_of (all_written n old new is same)

-- slots and bits that were written are consistent where the bits represent the slots
pub IsConsistent-written : (n slot_count bit_count : ℕ) (slots slots' : List (Option Region))
    (bits bits' : List Bool)
    → slot_count ≡ length slots
    → length slots' ≡ length slots
    → bit_count ≡ length bits
    → length bits' ≡ length bits
    → IsConsistent n slots bits
    → Represents n (slot_of slots') bits'
    → IsConsistent n (take slot_count (slots' ++ drop (length slots') slots))
    (take bit_count (bits' ++ drop (length bits') bits))
IsConsistent-written n slot_count bit_count slots slots' bits bits' slot_is same_slots bit_is same_bits before represents =
    subst (λ xs. IsConsistent n xs (take bit_count (bits' ++ drop (length bits') bits))) (sym (all_written slot_count slots slots' slot_is same_slots))
    (subst (IsConsistent n slots') (sym (all_written bit_count bits bits' bit_is same_bits))
    record { slot_count = same_slots ∙ before.slot_count; represents = represents })
