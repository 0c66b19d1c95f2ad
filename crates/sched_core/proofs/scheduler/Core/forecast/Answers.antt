-- The job waits.
use Rattle.std.proofs.Common.{sym, ◌∙◌, subst}
use Rattle.sched_law.specs.declared.job.Place.{Place}
use Rattle.sched_core.specs.Shows.{job_arrival, job_place}
use Rattle.sched_core.specs.Answers.{IsForecast}
use Rattle.sched_core.proofs.JobLemmas.{waiting_present}
use Rattle.sched_core.proofs.scheduler.Core.forecast.Goals as goal

pub returns : goal.returns
returns c = λ w k.
    let at = sym c.in-Waiting.is ∙ c.place-place.ensures in
    subst (λ (p : Place). IsForecast w (job_arrival c.args.self.now c.args.slot) p c.promise.result) at
    (c.promise.ensures w k (waiting_present (job_place c.args.self.now c.args.slot) c.in-Waiting.field-0 (sym at)))
