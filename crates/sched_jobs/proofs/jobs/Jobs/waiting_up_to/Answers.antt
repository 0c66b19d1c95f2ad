-- The slots of the classes have the waiting jobs.
use Rattle.sched_jobs.specs.Slots.{line_of, place_in}
use Rattle.sched_jobs.proofs.CountLemmas.{numbers, up_to_counted}
use Rattle.sched_jobs.proofs.jobs.Jobs.waiting_up_to.Goals as goal

pub returns-clause-count : goal.returns-clause-count
returns-clause-count c = λ w shows.
    up_to_counted w c.args.self.now shows c.args.class c.count_classes.result
    (c.count_classes.ensures.count (λ u. line_of (place_in c.args.self.now.slots.items u)) c.args.self.now.next shows.2.shown (numbers w c.args.self.now shows))
