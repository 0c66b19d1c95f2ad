use Rattle.std.proofs.Common.{◌≡◌, ◌≤◌, ◌-◌, ◌*◌, ◌^◌, ◌%◌, arith}
use Rattle.std.proofs.Math.Pow.{pow_mono}
use Rattle.std.proofs.lemmas.Nat.{one_shl}
use Rattle.cube_shape.specs.declared.limits.TheConstants.{MAX_BITMAP_DIM}
use Rattle.bitmap_tree.specs.declared.mask.TheConstants.{WORD_DIM}
use Rattle.bitmap_tree.proofs.marks.tops_of.Goals as goal

pub returns : goal.returns
returns c =
    let low : c.saturating_sub.result ≤ MAX_BITMAP_DIM - 3 * WORD_DIM = omega (arith, c.saturating_sub.ensures, c.requires) in
    let value : 1 * 2 ^ c.saturating_sub.result % 4294967296 ≡ 2 ^ c.saturating_sub.result = one_shl c.saturating_sub.result 32 (omega arith) in
    let most : 2 ^ c.saturating_sub.result ≤ 2 ^ (MAX_BITMAP_DIM - 3 * WORD_DIM) = pow_mono low in
    omega (arith, value, most)
