-- The block of the job is vacant.
use Rattle.std.proofs.Common.{refl, sym, ◌∙◌}
use Rattle.sched_core.specs.Shows.{job_arrival}
use Rattle.sched_core.proofs.CoreLemmas.{finish_core}
use Rattle.sched_core.proofs.JobLemmas.{slot_runs}
use Rattle.sched_core.proofs.scheduler.Core.finish.Goals as goal

pub returns-clause-shows : goal.returns-clause-shows
returns-clause-shows c = λ w k.
    let runs = sym c.place.ensures ∙ c.in-Running.is in
    finish_core w c.args.self.now k c.finish-2.new.self c.args.slot c.finish-2.ensures.capacity c.finish-2.ensures.others c.finish.new.self c.in-Running.ended c.finish.ensures.dim_stays runs
    (c.finish.ensures.shows w (job_arrival c.args.self.now c.args.slot) c.in-Running.ended k.machine (slot_runs w c.args.self.now.jobs k.jobs c.args.slot c.in-Running.ended runs) refl)
    (c.finish-2.ensures.shows w k.jobs)
