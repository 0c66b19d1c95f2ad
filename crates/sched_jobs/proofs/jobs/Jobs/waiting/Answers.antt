-- The slots of all lines have the waiting jobs.
use Rattle.sched_jobs.specs.Slots.{line_of, place_in}
use Rattle.sched_jobs.proofs.CountLemmas.{numbers, waiting_counted}
use Rattle.sched_jobs.proofs.jobs.Jobs.waiting.Goals as goal

pub returns : goal.returns
returns c = λ w shows.
    waiting_counted w c.args.self.now shows c.count_classes.result
    (c.count_classes.ensures.count (λ u. line_of (place_in c.args.self.now.slots.items u)) c.args.self.now.next shows.2.shown (numbers w c.args.self.now shows))
