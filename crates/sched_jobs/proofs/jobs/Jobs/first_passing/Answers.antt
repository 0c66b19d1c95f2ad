-- The first slot by the queues has the first job.
use Rattle.sched_jobs.specs.Slots.{line_of, place_in}
use Rattle.sched_jobs.proofs.ChosenLemmas.{answer_none, answer_some}
use Rattle.sched_jobs.proofs.jobs.Jobs.first_passing.Goals as goal

pub returns-clause-first : goal.returns-clause-first
returns-clause-first c = λ w shows.
    answer_some w c.args.self.now shows c.args.any c.args.most c.args.limit c.new-wanted.result c.new-wanted.ensures.yes c.new-wanted.ensures.no c.first.result
    (c.first.ensures (λ u. line_of (place_in c.args.self.now.slots.items u)) shows.2.shown)

pub returns-clause-none : goal.returns-clause-none
returns-clause-none c = λ w shows.
    answer_none w c.args.self.now shows c.args.any c.args.most c.args.limit c.new-wanted.result c.new-wanted.ensures.yes c.new-wanted.ensures.no c.first.result
    (c.first.ensures (λ u. line_of (place_in c.args.self.now.slots.items u)) shows.2.shown)
