-- Only a queue without slots has no tree.
use Rattle.std.proofs.lemmas.Bool.{eq-eqb, eqb-true}
use Rattle.sched_jobs.specs.declared.nodes.TheConstants.{NO_LINK}
use Rattle.sched_jobs.proofs.QueueLemmas.{is_no_slot, root_of_none}
use Rattle.sched_jobs.proofs.queues.is_empty.Goals as goal

pub returns : goal.returns
returns c = λ nodes slots is. (
  λ yes. is_no_slot nodes c.args.queue.now slots is (eqb-true c.args.queue.now.root NO_LINK yes),
  λ none. eq-eqb c.args.queue.now.root NO_LINK (root_of_none nodes c.args.queue.now slots is none),
)
