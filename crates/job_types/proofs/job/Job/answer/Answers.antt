use Rattle.std.proofs.Common.{◌^◌, ◌≤◌, ap, arith}
use Rattle.std.proofs.Math.Pow.{pow_mono}
use Rattle.std.proofs.lemmas.Nat.{pow_pos}
use Rattle.cube_shape.specs.declared.limits.TheConstants.{MAX_DIM}
use Rattle.cube_shape.proofs.RegionLemmas.{IsAligned-end}
use Rattle.job_types.specs.Job.{JobData}
use Rattle.job_types.proofs.job.Job.answer.Goals as goal

pub put_run-requires-clause-base : goal.put_run-requires-clause-base
put_run-requires-clause-base c =
    let end = IsAligned-end c.args.self.machine c.args.region c.requires.aligned in
    let viewed = ap (λ (j : JobData). j.machine) c.self.view_is in
    let limit : c.args.self.machine ≤ MAX_DIM = omega (arith, viewed, c.self.invariant.job.limit) in
    let within : 2 ^ c.args.self.machine ≤ 2 ^ MAX_DIM = pow_mono limit in
    omega (arith, end, within, pow_pos c.args.region.dim)
