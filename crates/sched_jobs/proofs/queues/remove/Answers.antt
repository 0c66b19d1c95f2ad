-- The leaf leaves the tree, or the tree was this leaf.
use Rattle.std.proofs.Common.{refl}
use Rattle.sched_jobs.proofs.QueueLemmas.{can_remove, queue_kept, remove_one, remove_only, removed_others, tree_of}
use Rattle.sched_jobs.proofs.queues.remove.Goals as goal

pub returns-then-is_leaf_of-clause-queue : goal.returns-then-is_leaf_of-clause-queue
returns-then-is_leaf_of-clause-queue c = λ before after is.
    remove_only c.args.nodes.now c.args.queue.now _ before c.args.slot after is (c.is_leaf_of.ensures.yes c.if-is_leaf_of.true) refl

pub returns-then-is_leaf_of-clause-others : goal.returns-then-is_leaf_of-clause-others
returns-then-is_leaf_of-clause-others c = λ slots has other theirs is clear.
    is

pub remove_in-queue-requires : goal.remove_in-queue-requires
remove_in-queue-requires c =
    ((tree_of c.args.nodes.now c.args.queue.now c.requires.0 c.args.slot c.requires.1).tree, can_remove c.args.nodes.now c.args.queue.now c.requires.0 c.args.slot c.requires.1 (c.is_leaf_of.ensures.no c.if-is_leaf_of.false))

pub returns-clause-queue : goal.returns-clause-queue
returns-clause-queue c = λ before after is.
    remove_one c.args.nodes.now c.remove_in-queue.new.nodes c.args.queue.now _ c.remove_in-queue.result c.remove_in-queue.new.next before c.args.slot after is (c.is_leaf_of.ensures.no c.if-is_leaf_of.false) refl c.remove_in-queue.ensures c.first_after-queue.ensures.stays c.first_after-queue.ensures.goes

pub returns-clause-keys : goal.returns-clause-keys
returns-clause-keys c =
    let done = c.remove_in-queue.ensures (tree_of c.args.nodes.now c.args.queue.now c.requires.0 c.args.slot c.requires.1).tree (can_remove c.args.nodes.now c.args.queue.now c.requires.0 c.args.slot c.requires.1 (c.is_leaf_of.ensures.no c.if-is_leaf_of.false)) in
    done.rest.same_keys

pub returns-clause-estimates : goal.returns-clause-estimates
returns-clause-estimates c =
    let done = c.remove_in-queue.ensures (tree_of c.args.nodes.now c.args.queue.now c.requires.0 c.args.slot c.requires.1).tree (can_remove c.args.nodes.now c.args.queue.now c.requires.0 c.args.slot c.requires.1 (c.is_leaf_of.ensures.no c.if-is_leaf_of.false)) in
    done.rest.same_estimates

pub returns-clause-others : goal.returns-clause-others
returns-clause-others c = λ slots has other theirs is clear.
    let done = c.remove_in-queue.ensures (tree_of c.args.nodes.now c.args.queue.now slots c.args.slot has).tree (can_remove c.args.nodes.now c.args.queue.now slots c.args.slot has (c.is_leaf_of.ensures.no c.if-is_leaf_of.false)) in
    queue_kept c.args.nodes.now c.remove_in-queue.new.nodes slots other theirs (removed_others c.args.nodes.now c.args.queue.now slots c.args.slot has c.remove_in-queue.new.nodes c.remove_in-queue.result c.remove_in-queue.new.next done) clear is
