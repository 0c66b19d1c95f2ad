-- The block is the one of its dimension whose number is its base by its size.
use Rattle.std.proofs.Common.{◌≡◌, ℕ, ◌-◌, ◌*◌, ◌/◌, ◌%◌, ◌^◌, ◌<◌, ◌≤◌, sym, ◌∙◌, ap, subst, arith, eq-eqb}
use Rattle.std.proofs.lemmas.Bool.{eqb-true}
use Rattle.std.proofs.lemmas.Nat.{one_shl, pow_pos}
use Rattle.std.proofs.Math.Nat.{mul-div_cancel}
use Rattle.cube_shape.specs.declared.region.Region.{Region}
use Rattle.cube_shape.specs.Region.{IsAligned}
use Rattle.sched_board.proofs.blocks.is_block.Goals as goal

module _ (n : ℕ) (r : Region) (size : ℕ) (is_size : size ≡ 2 ^ r.dim) where
  numbered : r.dim ≤ n → r.base / size < 2 ^ (n - r.dim) → r.base / size * size ≡ r.base → IsAligned n r
  numbered fits below whole =
      let base : r.base ≡ r.base / size * 2 ^ r.dim = sym whole ∙ ap (λ s. r.base / size * s) is_size in
      (fits, (r.base / size, below, ap (λ b. record { base = b; dim = r.dim }) base))

  whole_then : IsAligned n r → r.base / size * size ≡ r.base
  whole_then aligned =
      let m = aligned.1.0 in
      let base : r.base ≡ m * size = ap (λ (a : Region). a.base) aligned.1.2 ∙ ap (λ s. m * s) (sym is_size) in
      let some : 0 < size = subst (λ s. 0 < s) (sym is_size) (pow_pos r.dim) in
      ap (λ b. b / size * size) base ∙ ap (λ k. k * size) (mul-div_cancel m some) ∙ sym base

pub returns : goal.returns
returns c =
    let n = c.args.n in
    let r = c.args.region in
    let is_size : 1 * 2 ^ r.dim % 2 ^ 64 ≡ 2 ^ r.dim = one_shl r.dim 64 (omega (arith, c.requires)) in
    let is_count : 1 * 2 ^ (n - r.dim) % 2 ^ 64 ≡ 2 ^ (n - r.dim) = one_shl (n - r.dim) 64 (omega (arith, c.requires)) in
    let size = 1 * 2 ^ r.dim % 2 ^ 64 in (
      λ whole. numbered n r size is_size (omega arith) (omega (arith, is_count)) (eqb-true (r.base / size * size) r.base whole),
      λ aligned. eq-eqb (r.base / size * size) r.base (whole_then n r size is_size aligned),
    )
