-- The call puts the block back exactly if it is out of service.
use Rattle.cubejobs_plan.proofs.serving.vacate.Goals as goal

pub returns-clause-vacated : goal.returns-clause-vacated
returns-clause-vacated c = λ code. record {
  out = λ w k. (c.vacate.ensures.out w k).0 c.if-not-vacate.false;
  shows = λ w k. c.vacate.ensures.shows w k ((c.vacate.ensures.out w k).0 c.if-not-vacate.false);
  jobs = c.vacate.ensures.jobs;
}
