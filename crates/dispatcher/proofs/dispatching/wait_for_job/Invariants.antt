use Rattle.std.proofs.Common.{◌≡◌}
use Rattle.dispatcher.proofs.dispatching.wait_for_job.Given as goal

abbrev pub invariant-loop : goal.invariant-loop
invariant-loop g l = let line = g.L.JobLine in
    line.is_pass (line.id l.fn.line) l.pass × (line.pass_record l.pass ≡ line.pass_record l.fn.pass)
