-- The count in the tree is that of the slots.
use Rattle.std.proofs.Common.{sym, ◌∙◌, ap}
use Rattle.sched_jobs.proofs.FindLemmas.{lesser}
use Rattle.sched_jobs.proofs.QueueLemmas.{is_no_slot, is_tree}
use Rattle.sched_jobs.proofs.queues.count_before.Goals as goal

pub returns-then-queue : goal.returns-then-queue
returns-then-queue c = λ slots is.
    sym (ap (lesser c.args.nodes.now c.args.key) (is_no_slot c.args.nodes.now c.args.queue.now slots is c.if-queue.true))

pub count_in-requires : goal.count_in-requires
count_in-requires c =
    let found = is_tree c.args.nodes.now c.args.queue.now c.requires.0 c.requires.1 c.if-queue.false in
    (found.tree, found.found)

pub returns : goal.returns
returns c = λ slots is.
    let found = is_tree c.args.nodes.now c.args.queue.now slots is c.if-queue.false in
    c.count_in.ensures found.tree found.found ∙ ap (lesser c.args.nodes.now c.args.key) found.all
