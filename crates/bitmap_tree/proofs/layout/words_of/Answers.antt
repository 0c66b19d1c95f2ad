use Rattle.std.proofs.Common.{◌≡◌, ◌≤◌, ◌-◌, ◌*◌, ◌^◌, ◌%◌, arith}
use Rattle.std.proofs.Math.Pow.{pow_mono}
use Rattle.std.proofs.lemmas.Nat.{one_shl}
use Rattle.cube_shape.specs.declared.limits.TheConstants.{MAX_BITMAP_DIM}
use Rattle.bitmap_tree.proofs.layout.words_of.Goals as goal

pub returns-clause-limit : goal.returns-clause-limit
returns-clause-limit c =
    let low : c.saturating_sub.result ≤ MAX_BITMAP_DIM - 6 = omega (arith, c.saturating_sub.ensures, c.requires) in
    let value : 1 * 2 ^ c.saturating_sub.result % 4294967296 ≡ 2 ^ c.saturating_sub.result = one_shl c.saturating_sub.result 32 (omega arith) in
    let most : 2 ^ c.saturating_sub.result ≤ 2 ^ (MAX_BITMAP_DIM - 6) = pow_mono low in
    omega (arith, value, most, c.first_word.ensures.limit)
