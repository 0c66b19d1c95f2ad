-- The answer about a waiting job.
use Rattle.std.proofs.Common.{◌≡◌, sym, ◌∙◌, subst}
use Rattle.sched_law.specs.declared.job.Place.{Place}
use Rattle.sched_law.specs.declared.job.Place.TheVariants.{Waiting}
use Rattle.sched_core.specs.Shows.{job_arrival, job_place}
use Rattle.sched_core.specs.Answers.{IsForecast}
use Rattle.cubejobs_plan.specs.Answers.{SaysPlace}
use Rattle.cubejobs_plan.proofs.answers.described.Goals as goal

pub returns-clause-listed : goal.returns-clause-listed
returns-clause-listed c = λ w k.
    let core = c.args.scheduler.now in
    let j = job_arrival core c.args.slot in
    let at : job_place core c.args.slot ≡ Waiting c.in-Waiting.wait = sym c.place-place.ensures ∙ c.in-Waiting.is in record {
      code = c.waiting.ensures.code;
      ticket = c.waiting.ensures.ticket ∙ c.ticket.ensures.ticket;
      arrival = c.waiting.ensures.arrival ∙ c.arrival.ensures;
      place = subst (λ (p : Place). SaysPlace w j p c.waiting.result) (sym at)
          (c.waiting.ensures.numbers, c.waiting.ensures.queued w j (subst (λ (p : Place). IsForecast w j p c.forecast.result) at (c.forecast.ensures w k)));
    }
