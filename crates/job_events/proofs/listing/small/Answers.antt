use Rattle.std.proofs.Common.{◌^◌, ◌≤◌, arith}
use Rattle.std.proofs.Math.Pow.{pow_mono}
use Rattle.std.proofs.lemmas.Nat.{pow_pos}
use Rattle.cube_shape.specs.declared.limits.TheConstants.{MAX_DIM}
use Rattle.cube_shape.proofs.RegionLemmas.{IsAligned-end}
use Rattle.job_events.proofs.listing.small.Goals as goal

pub overflow_cast-result : goal.overflow_cast-result
overflow_cast-result c =
    let end = IsAligned-end c.args.n c.args.region c.requires.aligned in
    let within : 2 ^ c.args.n ≤ 2 ^ MAX_DIM = pow_mono c.requires.machine in
    omega (arith, end, within, pow_pos c.args.region.dim)
