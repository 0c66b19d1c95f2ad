-- The front is the first slot.
use Rattle.std.proofs.Common.{sym, ap}
use Rattle.sched_jobs.specs.Lists.{first_slot}
use Rattle.sched_jobs.proofs.QueueLemmas.{front_is, is_no_slot, is_tree}
use Rattle.sched_jobs.proofs.queues.oldest.Goals as goal

pub returns-then-queue : goal.returns-then-queue
returns-then-queue c = λ slots is.
    sym (ap first_slot (is_no_slot c.args.nodes.now c.args.queue.now slots is c.if-queue.true))

pub returns : goal.returns
returns c = λ slots is.
    let found = is_tree c.args.nodes.now c.args.queue.now slots is c.if-queue.false in
    front_is c.args.nodes.now c.args.queue.now slots is found
