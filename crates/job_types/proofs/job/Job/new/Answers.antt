use Rattle.std.proofs.Common.{◌≡◌, ◌^◌, length, None, rules, arith}
use Rattle.std.proofs.Math.Pow.{pow_mono}
use Rattle.cube_shape.specs.declared.limits.TheConstants.{MAX_DIM}
use Rattle.job_types.specs.Job.{refusal_of}
use Rattle.job_types.proofs.RefusalLemmas.{accepted, root_of_more}
use Rattle.job_types.proofs.job.Job.new.Goals as goal

pub new-requires-in-Ok-new : goal.new-requires-in-Ok-new
new-requires-in-Ok-new c =
    let none : refusal_of c.args.n c.args.kind c.args.items.items ≡ None = search rules in
    let good = accepted c.args.n c.args.kind c.args.items.items none in
    let within = pow_mono c.requires.machine in
    root_of_more c.args.kind (length c.args.items.items) (2 ^ MAX_DIM)
    (omega (arith, good.within, within)) good.rooted
