use Rattle.std.proofs.Common.{◌≡◌, ◌≤◌, ◌*◌, ◌^◌, ◌%◌, arith}
use Rattle.std.proofs.Math.Pow.{pow_mono}
use Rattle.std.proofs.lemmas.Nat.{one_shl}
use Rattle.bitmap_tree.proofs.mask.doubled.Goals as goal

pub overflow_shr-result : goal.overflow_shr-result
overflow_shr-result c =
    let low = c.requires in
    let value : 1 * 2 ^ c.args.k % 4294967296 ≡ 2 ^ c.args.k = one_shl c.args.k 32 (omega (arith, low)) in
    let few : c.args.k ≤ 5 = omega (arith, low) in
    let most : 2 ^ c.args.k ≤ 2 ^ 5 = pow_mono few in
    omega (arith, value, most)
