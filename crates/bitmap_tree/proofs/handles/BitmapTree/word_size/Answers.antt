use Rattle.std.proofs.Common.{◌≡◌, ◌≤◌, ◌*◌, ◌^◌, ◌%◌, arith}
use Rattle.std.proofs.Math.Pow.{pow_mono}
use Rattle.std.proofs.lemmas.Nat.{one_shl}
use Rattle.bitmap_tree.proofs.handles.BitmapTree.word_size.Goals as goal

pub returns-clause-limit : goal.returns-clause-limit
returns-clause-limit c =
    let low : c.min.result ≤ 6 = omega (arith, c.min.ensures) in
    let value : 1 * 2 ^ c.min.result % 4294967296 ≡ 2 ^ c.min.result = one_shl c.min.result 32 (omega arith) in
    let most : 2 ^ c.min.result ≤ 2 ^ 6 = pow_mono low in
    omega (arith, value, most)
