use Rattle.std.proofs.Common.{◌≡◌, ◌≤◌, ◌-◌, ◌*◌, ◌^◌, ◌%◌, arith}
use Rattle.std.proofs.Math.Pow.{pow_mono}
use Rattle.std.proofs.lemmas.Nat.{one_shl, pow_pos}
use Rattle.cube_shape.specs.declared.limits.TheConstants.{MAX_BITMAP_DIM}
use Rattle.bitmap_tree.specs.declared.mask.TheConstants.{WORD_DIM}
use Rattle.bitmap_tree.proofs.marks.groups_of.Goals as goal

pub returns-clause-limit : goal.returns-clause-limit
returns-clause-limit c =
    let low : c.saturating_sub.result ≤ MAX_BITMAP_DIM - 2 * WORD_DIM = omega (arith, c.saturating_sub.ensures, c.requires) in
    let value : 1 * 2 ^ c.saturating_sub.result % 4294967296 ≡ 2 ^ c.saturating_sub.result = one_shl c.saturating_sub.result 32 (omega arith) in
    let most : 2 ^ c.saturating_sub.result ≤ 2 ^ (MAX_BITMAP_DIM - 2 * WORD_DIM) = pow_mono low in
    omega (arith, value, most)

pub returns-clause-some : goal.returns-clause-some
returns-clause-some c =
    let low : c.saturating_sub.result ≤ MAX_BITMAP_DIM - 2 * WORD_DIM = omega (arith, c.saturating_sub.ensures, c.requires) in
    let value : 1 * 2 ^ c.saturating_sub.result % 4294967296 ≡ 2 ^ c.saturating_sub.result = one_shl c.saturating_sub.result 32 (omega arith) in
    omega (arith, value, pow_pos c.saturating_sub.result)
