use Rattle.std.proofs.Common.{◌≡◌, ◌+◌, ◌*◌, ◌%◌, ◌^◌, ◌≤◌, arith}
use Rattle.std.proofs.lemmas.Nat.{one_shl}
use Rattle.std.proofs.Math.Pow.{pow_mono}
use Rattle.cube_shape.specs.declared.limits.TheConstants.{MAX_BITMAP_DIM}
use Rattle.cubejobs_fit.proofs.faults.room_count.Goals as goal

pub returns-clause-rooms : goal.returns-clause-rooms
returns-clause-rooms c = one_shl (c.args.n + 1) 64 (omega arith)

pub returns-clause-limit : goal.returns-clause-limit
returns-clause-limit c =
    let shift : 1 * 2 ^ (c.args.n + 1) % 2 ^ 64 ≡ 2 ^ (c.args.n + 1) = one_shl (c.args.n + 1) 64 (omega arith) in
    let most : 2 ^ (c.args.n + 1) ≤ 2 ^ (MAX_BITMAP_DIM + 1) = pow_mono {j = MAX_BITMAP_DIM + 1} (omega arith) in
    omega (arith, shift, most)
