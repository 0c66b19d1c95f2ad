use Rattle.sched_core.proofs.kept.Scheduler.peek.Goals as goal

pub invariant_of-self : goal.invariant_of-self
invariant_of-self c = let after = c.peek.ensures.announces c.self.invariant.0 c.self.invariant.1 in (after.0, after.1.1.1)
