-- The shift is a power of two.
use Rattle.std.proofs.Common.{◌≡◌, ◌+◌, ◌*◌, ◌%◌, ◌^◌, arith}
use Rattle.std.proofs.lemmas.Nat.{one_shl}
use Rattle.cubejobs_plan.proofs.opening.bytes.Goals as goal

pub returns : goal.returns
returns c =
    let shift : 1 * 2 ^ (c.args.options.dim + 1) % 2 ^ 64 ≡ 2 ^ (c.args.options.dim + 1) = one_shl (c.args.options.dim + 1) 64 (omega (arith, c.requires.dim)) in
    omega (arith, shift)
