use Rattle.sched_core.proofs.kept.Scheduler.next.Goals as goal

pub invariant_of-self : goal.invariant_of-self
invariant_of-self c = let after = c.next.ensures.decides c.self.invariant.0 c.self.invariant.1 in (after.0, after.2)
