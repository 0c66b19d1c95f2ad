-- No more jobs wait than there are slots.
use Rattle.std.proofs.Common.{arith}
use Rattle.sched_jobs.specs.Counts.{DoesWait}
use Rattle.sched_core.proofs.JobLemmas.{waiting_present}
use Rattle.cubejobs_plan.proofs.FewLemmas.{jobs_few}
use Rattle.cubejobs_plan.proofs.counting.waiting.Goals as goal

pub overflow_cast-result : goal.overflow_cast-result
overflow_cast-result c =
    let w = c.shows_a_state.ensures.0 in
    let k = c.shows_a_state.ensures.1 in
    let few = jobs_few w c.args.scheduler.now k (DoesWait w) (λ i has. waiting_present (w.place i) has.0 has.1) w.next c.waiting.result (c.waiting.ensures w k) in
    omega (arith, few)
