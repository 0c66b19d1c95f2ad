-- The end is known, or it is compared with the patience.
use Rattle.std.proofs.Common.{◌≡◌, inl, inr, refl, subst, arith}
use Rattle.sched_law.specs.declared.job.TheConstants.{NEVER}
use Rattle.sched_law.specs.Policy.{IsLatest}
use Rattle.sched_core.proofs.PickLemmas.{few_by, many_by}
use Rattle.sched_core.proofs.scheduler.Core.may_reserve.Goals as goal

pub returns-then-latest-lt-NEVER-clause-yes : goal.returns-then-latest-lt-NEVER-clause-yes
returns-then-latest-lt-NEVER-clause-yes c = λ is w k. (c.latest.result, c.latest.ensures w k.machine, inl c.if-latest-lt-NEVER.true)

pub returns-then-is_patient-clause-no : goal.returns-then-is_patient-clause-no
returns-then-is_patient-clause-no c = λ is w k.
    let never : c.latest.result ≡ NEVER = omega arith in (
      subst (IsLatest w c.args.block) never (c.latest.ensures w k.machine),
      few_by w c.args.self.now c.args.passed c.dim.result k c.dim.ensures.dim (c.if-is_patient.ensures.few refl),
    )

pub returns-clause-yes : goal.returns-clause-yes
returns-clause-yes c = λ is w k. (
  c.latest.result,
  c.latest.ensures w k.machine,
  inr (many_by w c.args.self.now c.args.passed c.dim.result k c.dim.ensures.dim (c.if-is_patient.ensures.many refl)),
)
