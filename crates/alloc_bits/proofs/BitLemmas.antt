-- The bits of a region, cut out of all the bits.
use Rattle.std.proofs.Common.{◌≡◌, ℕ, ◌+◌, ◌-◌, ◌^◌, ◌<◌, ◌≤◌, Bool, false, List, length, take, drop, sym, ◌∙◌, ap, arith, length-take, length-drop}
use Rattle.std.proofs.lemmas.List.{get_or-take, get_or-drop}
use Rattle.cube_shape.specs.declared.region.Region.{Region}
use Rattle.cube_shape.specs.Region.{Covers}
use Rattle.alloc_bits.specs.Represents.{bit_of}

bit_of-part : (bits : List Bool) (start end i : ℕ)
    → i < end - start
    → bit_of (take (end - start) (drop start bits)) i ≡ bit_of bits (start + i)
bit_of-part bits start end i within = get_or-take (end - start) (drop start bits) i false within ∙ get_or-drop start bits i false

-- all bits of a region are as given exactly if those of that part are
module _ (taken : Bool) (bits : List Bool) (r : Region) (start end : ℕ) (is_start : start ≡ r.base)
    (is_end : end ≡ r.base + 2 ^ r.dim) (within : end ≤ length bits) where
  size : length (take (end - start) (drop start bits)) ≡ end - start
  size = simp (length-take, length-drop) (omega arith)

  pub all-part : ((i : ℕ) → i < length (take (end - start) (drop start bits))
      → bit_of (take (end - start) (drop start bits)) i ≡ taken)
      → (p : ℕ)
      → Covers r p
      → bit_of bits p ≡ taken
  all-part all p inside =
      let back : start + (p - start) ≡ p = omega (arith, inside.0) in
      let low : p - start < end - start = omega (arith, inside.0, inside.1) in
      ap (bit_of bits) (sym back) ∙ sym (bit_of-part bits start end (p - start) low) ∙ all (p - start) (omega (arith, size))

  pub part-all : ((p : ℕ) → Covers r p → bit_of bits p ≡ taken)
      → (i : ℕ)
      → i < length (take (end - start) (drop start bits))
      → bit_of (take (end - start) (drop start bits)) i ≡ taken
  part-all all i below =
      let low : i < end - start = omega (arith, size) in
      bit_of-part bits start end i low ∙ all (start + i) (omega arith, omega arith)
