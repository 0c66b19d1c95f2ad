-- The least estimate of the tree says whether there is one.
use Rattle.std.proofs.Common.{◌≤◌, sym, subst, arith}
use Rattle.sched_jobs.specs.InnerQueue.Tree.{least_of}
use Rattle.sched_jobs.specs.Queues.{HasNoneWithin, IsOldestWithin}
use Rattle.sched_jobs.specs.Lists.{Has}
use Rattle.sched_jobs.proofs.TreeLemmas.{least_at_link, link_inside}
use Rattle.sched_jobs.proofs.FindLemmas.{least_is_least}
use Rattle.sched_jobs.proofs.QueueLemmas.{is_no_slot, is_tree}
use Rattle.sched_jobs.proofs.queues.oldest_within.Goals as goal

pub returns-then-queue-clause-none : goal.returns-then-queue-clause-none
returns-then-queue-clause-none c = λ slots is.
    subst (λ xs. HasNoneWithin c.args.nodes.now xs c.args.limit) (sym (is_no_slot c.args.nodes.now c.args.queue.now slots is c.if-queue.true)) (λ u h. absurd h)

pub least_in-requires : goal.least_in-requires
least_in-requires c =
    let found = is_tree c.args.nodes.now c.args.queue.now c.requires.0 c.requires.1 c.if-queue.false in
    link_inside c.args.nodes.now c.args.queue.now.root found.tree found.found

pub returns-then-limit-least_in-clause-none : goal.returns-then-limit-least_in-clause-none
returns-then-limit-least_in-clause-none c = λ slots is u h.
    let found = is_tree c.args.nodes.now c.args.queue.now slots is c.if-queue.false in
    let least = least_is_least c.args.nodes.now found.tree u (subst (λ xs. Has xs u) (sym found.all) h) in
    omega (arith, least, least_at_link c.args.nodes.now c.args.queue.now.root found.tree found.found, c.least_in.ensures, c.if-limit-least_in.true)

pub oldest_within_in-requires : goal.oldest_within_in-requires
oldest_within_in-requires c =
    let found = is_tree c.args.nodes.now c.args.queue.now c.requires.0 c.requires.1 c.if-queue.false in
    (found.tree, found.found)

pub returns-clause-found : goal.returns-clause-found
returns-clause-found c = λ slots is.
    let found = is_tree c.args.nodes.now c.args.queue.now slots is c.if-queue.false in
    let small : least_of c.args.nodes.now found.tree ≤ c.args.limit =
    omega (arith, least_at_link c.args.nodes.now c.args.queue.now.root found.tree found.found, c.least_in.ensures, c.if-limit-least_in.false) in
    subst (λ xs. IsOldestWithin c.args.nodes.now xs c.args.limit c.oldest_within_in.result) found.all
    (c.oldest_within_in.ensures found.tree found.found small)
