-- The job runs in the block.
use Rattle.std.proofs.Common.{◌≡◌, ℕ, Option, sym, ◌∙◌, ap, subst}
use Rattle.sched_law.specs.declared.job.SchedRun.{SchedRun}
use Rattle.sched_law.specs.declared.job.SchedWait.{SchedWait}
use Rattle.sched_law.specs.State.{end_after, start}
use Rattle.sched_law.proofs.SetLemmas.{wait_is}
use Rattle.sched_core.specs.declared.assigned.Assigned.{Assigned}
use Rattle.sched_jobs.specs.Shows.{place_of}
use Rattle.sched_core.specs.Shows.{ShowsCore, job_arrival}
use Rattle.sched_core.proofs.JobLemmas.{keeps_all, running_present, slot_waits}
use Rattle.sched_core.proofs.CoreLemmas.{start_core}
use Rattle.sched_core.proofs.scheduler.Core.launch.Goals as goal

pub returns-clause-shows : goal.returns-clause-shows
returns-clause-shows c = λ w wait k waits sized vacant.
    let found : c.in-Waiting.wait ≡ wait = wait_is (sym c.in-Waiting.is ∙ c.place.ensures ∙ waits) in
    let at_end : c.end_of-end.result ≡ end_after w.now wait.job.estimate =
    c.end_of-end.ensures ∙ ap (λ (x : SchedWait). end_after c.args.self.now.time x.job.estimate) found ∙ ap (λ (t : ℕ). end_after t wait.job.estimate) (sym k.time) in
    let j = job_arrival c.args.self.now c.args.slot in
    subst (λ (o : Option Assigned). ShowsCore (start j wait.job c.args.block w) (record c.args.self.now { blocks = c.start-2.new.self; jobs = c.start.new.self; reserved = o })) (sym c.forget.ensures)
    (start_core w c.args.self.now k c.start.new.self c.args.slot c.start.ensures.capacity c.start.ensures.others c.start-2.new.self wait c.args.block c.start-2.ensures.dim_stays waits
    (c.start-2.ensures.shows w j wait k.machine (slot_waits w c.args.self.now.jobs k.jobs c.args.slot wait waits) vacant sized at_end)
    (c.start.ensures.shows w wait k.jobs waits at_end))

pub returns-clause-keeps : goal.returns-clause-keeps
returns-clause-keeps c =
    let run : SchedRun = record { job = c.in-Waiting.wait.job; block = c.args.block; end = c.end_of-end.result } in
    let runs = c.start.ensures.place c.in-Waiting.wait (sym c.place.ensures ∙ c.in-Waiting.is) in
    keeps_all c.args.self.now.jobs c.start.new.self c.args.slot c.start.ensures.others c.start.ensures.arrival
    (running_present (place_of c.start.new.self c.args.slot) run runs)
