-- What has passed is compared with the patience, and the ends are counted.
use Rattle.std.proofs.Common.{refl, arith}
use Rattle.std.proofs.lemmas.Bool.{false≢true}
use Rattle.sched_jobs.specs.Counts.{HasKnownEnd}
use Rattle.sched_core.proofs.PickLemmas.{few_by, many_by, none_of}
use Rattle.sched_core.proofs.scheduler.Core.has_to_wait.Goals as goal

pub returns-then-is_patient : goal.returns-then-is_patient
returns-then-is_patient c = λ w k.
    let few = few_by w c.args.self.now c.args.passed c.dim.result k c.dim.ensures.dim (c.if-is_patient.ensures.few refl) in
    let test = none_of c.has_known_end.result (HasKnownEnd w) (c.has_known_end.ensures w k.jobs) in
    (λ yes. (test.0 yes, few), λ waits. test.1 waits.0)

pub returns : goal.returns
returns c = λ w k.
    let many = many_by w c.args.self.now c.args.passed c.dim.result k c.dim.ensures.dim (c.if-is_patient.ensures.many refl) in
    (λ yes. absurd (false≢true yes), λ waits. absurd (omega (arith, many, waits.1)))
