use Rattle.dispatcher_threads.proofs.slots.WaitingLanes.new.Goals as goal

pub invariant_of-result : goal.invariant_of-result
invariant_of-result g c = (c.requires.lanes, c.requires.fresh, c.requires.jobs, c.requires.made_for, c.requires.room)
