-- The slot was free.
use Rattle.std.proofs.Common.{subst}
use Rattle.sched_jobs.specs.Slots.{IsPresent}
use Rattle.sched_core.proofs.CoreLemmas.{submit_named}
use Rattle.sched_core.proofs.scheduler.Core.submit_into.Goals as goal

pub returns-clause-free : goal.returns-clause-free
returns-clause-free c = λ done taken. subst IsPresent (c.submit_into.ensures.free done).0 taken

pub returns-clause-shows : goal.returns-clause-shows
returns-clause-shows c = λ w k done.
    submit_named w c.args.self.now k c.submit_into.new.self c.args.job c.submit_into.ensures.capacity c.args.slot c.requires.sound (c.submit_into.ensures.free done).0
    c.submit_into.ensures.others (c.submit_into.ensures.shows w k.jobs done)
