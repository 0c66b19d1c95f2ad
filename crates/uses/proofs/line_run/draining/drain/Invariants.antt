use Rattle.std.proofs.Common.{◌≡◌, ◌++◌, List}
use Rattle.job_queue.specs.declared.record.QueuedJob.{QueuedJob}
use Rattle.uses.proofs.line_run.draining.drain.Given as goal

abbrev pub invariant-loop : goal.invariant-loop
invariant-loop g l =
    let line = g.L.JobLine in
    line.is_pass (line.id l.line) l.pass
    × ((before : List QueuedJob) → (line.pass_record l.fn.pass).taken ≡ before ++ l.fn.taken.items → (line.pass_record l.pass).taken ≡ before ++ l.taken.items)
