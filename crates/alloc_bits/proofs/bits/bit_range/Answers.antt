-- An aligned region ends within the machine.
use Rattle.std.proofs.Common.{◌≡◌, ◌*◌, ◌%◌, ◌^◌, arith}
use Rattle.std.proofs.lemmas.Nat.{one_shl}
use Rattle.cube_shape.proofs.RegionLemmas.{IsAligned-end}
use Rattle.alloc_bits.proofs.bits.bit_range.Goals as goal

pub returns-clause-in_machine : goal.returns-clause-in_machine
returns-clause-in_machine c =
    let size : 1 * 2 ^ c.args.region.dim % 2 ^ 64 ≡ 2 ^ c.args.region.dim = one_shl c.args.region.dim 64 (omega (arith, c.requires.region.0)) in
    omega (arith, size, IsAligned-end c.args.n c.args.region c.requires.region)
