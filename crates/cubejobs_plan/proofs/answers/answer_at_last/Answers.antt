-- The answer has the number that was counted.
use Rattle.std.proofs.Common.{ℕ, sym, subst}
use Rattle.sched_law.specs.declared.job.Place.{Place}
use Rattle.sched_core.specs.Shows.{job_arrival, job_place}
use Rattle.cubejobs_plan.specs.Answers.{IsBefore}
use Rattle.cubejobs_plan.proofs.answers.answer_at_last.Goals as goal

pub returns-clause-answer : goal.returns-clause-answer
returns-clause-answer c = λ w k.
    let core = c.args.scheduler.now in record {
      listed = c.described.ensures.listed w k;
      before = subst (λ (n : ℕ). IsBefore w (job_arrival core c.args.slot) (job_place core c.args.slot) n) (sym c.described.ensures.before)
          (subst (λ (p : Place). IsBefore w (job_arrival core c.args.slot) p c.before_last.result) (sym c.requires.job.1) (c.before_last.ensures w c.requires.job.0 k c.requires.job.1));
    }
