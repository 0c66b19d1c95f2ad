-- The three facts of halves are what the code tests.
use Rattle.std.proofs.Common.{◌≡◌, ◌+◌, ◌*◌, ◌^◌, ◌%◌, ◌≤◌, ◌∙◌, ap, arith, subst, sym}
use Rattle.std.proofs.Math.Pow.{pow_mono}
use Rattle.std.proofs.lemmas.Bool.{eq-eqb, eqb-true}
use Rattle.std.proofs.lemmas.Nat.{one_shl}
use Rattle.cube_shape.specs.declared.limits.TheConstants.{MAX_BITMAP_DIM}
use Rattle.cubejobs_regions.proofs.halves.are_halves.Goals as goal

pub overflow_add-result : goal.overflow_add-result
overflow_add-result c =
    let k = c.args.lower.dim in
    let value : 1 * 2 ^ k % 2 ^ 64 ≡ 2 ^ k = one_shl k 64 (omega (arith, c.requires.dim)) in
    let most : 2 ^ k ≤ 2 ^ MAX_BITMAP_DIM = pow_mono c.requires.dim in
    omega (arith, value, most, c.requires.base)

pub returns : goal.returns
returns c =
    let k = c.args.lower.dim in let base = c.args.lower.base in
    let value : 1 * 2 ^ k % 2 ^ 64 ≡ 2 ^ k = one_shl k 64 (omega (arith, c.requires.dim)) in
    let next = ap (λ size. base + size) value in
    let whole : 1 * 2 ^ (k + 1) % 2 ^ 64 ≡ 2 ^ (k + 1) = one_shl (k + 1) 64 (omega (arith, c.requires.dim)) in (
      λ yes. record { alike = c.if-upper-lower.false; even = subst (λ size. base % size ≡ 0) whole c.if-lower-ne0.false; next = eqb-true c.args.upper.base (base + 1 * 2 ^ k % 2 ^ 64) yes ∙ next },
      λ is. eq-eqb c.args.upper.base (base + 1 * 2 ^ k % 2 ^ 64) (is.next ∙ sym next),
    )
