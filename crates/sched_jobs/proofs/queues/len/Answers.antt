-- The size at the root counts the slots.
use Rattle.std.proofs.Common.{length, sym, ◌∙◌, ap}
use Rattle.sched_jobs.proofs.TreeLemmas.{link_inside, size_at_link, size_is_length}
use Rattle.sched_jobs.proofs.QueueLemmas.{is_no_slot, is_tree}
use Rattle.sched_jobs.proofs.queues.len.Goals as goal

pub returns-then-queue : goal.returns-then-queue
returns-then-queue c = λ slots is.
    sym (ap length (is_no_slot c.args.nodes.now c.args.queue.now slots is c.if-queue.true))

pub size_in-requires : goal.size_in-requires
size_in-requires c =
    let found = is_tree c.args.nodes.now c.args.queue.now c.requires.0 c.requires.1 c.if-queue.false in
    link_inside c.args.nodes.now c.args.queue.now.root found.tree found.found

pub returns : goal.returns
returns c = λ slots is.
    let found = is_tree c.args.nodes.now c.args.queue.now slots is c.if-queue.false in
    c.size_in.ensures ∙ size_at_link c.args.nodes.now c.args.queue.now.root found.tree found.found ∙ size_is_length found.tree ∙ ap length found.all
