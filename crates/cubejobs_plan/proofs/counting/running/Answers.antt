-- No more jobs run than there are slots.
use Rattle.std.proofs.Common.{arith}
use Rattle.sched_jobs.specs.Counts.{DoesRun}
use Rattle.sched_core.proofs.JobLemmas.{running_present}
use Rattle.cubejobs_plan.proofs.FewLemmas.{jobs_few}
use Rattle.cubejobs_plan.proofs.counting.running.Goals as goal

pub overflow_cast-result : goal.overflow_cast-result
overflow_cast-result c =
    let w = c.shows_a_state.ensures.0 in
    let k = c.shows_a_state.ensures.1 in
    let few = jobs_few w c.args.scheduler.now k (DoesRun w) (λ i has. running_present (w.place i) has.0 has.1) w.next c.running.result (c.running.ensures w k) in
    omega (arith, few)
