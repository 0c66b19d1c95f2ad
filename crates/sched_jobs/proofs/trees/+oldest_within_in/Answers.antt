-- The least estimate to the left says on which side the item is.
use Rattle.std.proofs.Common.{◌≡◌, ◌<◌, ◌≤◌, ◌%◌, min, sym, ap, subst, arith}
use Rattle.sched_jobs.specs.Queues.{IsOldestWithin}
use Rattle.sched_jobs.specs.InnerQueue.Tree.{least_of, slots_of}
use Rattle.sched_jobs.proofs.TreeLemmas.{branch_at, least_at_link, link_inside}
use Rattle.sched_jobs.proofs.FindLemmas.{within_left, within_right}
use Rattle.sched_jobs.proofs.trees.+oldest_within_in.Goals as goal

pub least_in-requires : goal.least_in-requires
least_in-requires t c =
    let odd : c.args.link % 2 ≡ 1 = omega arith in
    let at = branch_at c.args.nodes.now c.args.link c.requires.0 c.fork_at-fork.result c.requires.1 odd c.fork_at-fork.ensures in
    link_inside c.args.nodes.now c.fork_at-fork.result.left at.before at.to_left

pub oldest_within_in-requires : goal.oldest_within_in-requires
oldest_within_in-requires t c =
    let odd : c.args.link % 2 ≡ 1 = omega arith in
    let at = branch_at c.args.nodes.now c.args.link c.requires.0 c.fork_at-fork.result c.requires.1 odd c.fork_at-fork.ensures in
    let less = at.left_smaller in
    (omega (arith, less), (at.before, at.to_left))

pub oldest_within_in-requires-2 : goal.oldest_within_in-requires-2
oldest_within_in-requires-2 t c =
    let odd : c.args.link % 2 ≡ 1 = omega arith in
    let at = branch_at c.args.nodes.now c.args.link c.requires.0 c.fork_at-fork.result c.requires.1 odd c.fork_at-fork.ensures in
    let less = at.right_smaller in
    (omega (arith, less), (at.after, at.to_right))

pub returns-then-least_in-limit : goal.returns-then-least_in-limit
returns-then-least_in-limit t c = λ tree here small.
    let odd : c.args.link % 2 ≡ 1 = omega arith in
    let at = branch_at c.args.nodes.now c.args.link tree c.fork_at-fork.result here odd c.fork_at-fork.ensures in
    let least : least_of c.args.nodes.now at.before ≤ c.args.limit =
    omega (arith, c.least_in.ensures, least_at_link c.args.nodes.now c.fork_at-fork.result.left at.before at.to_left, c.if-least_in-limit.true) in
    subst (λ whole. IsOldestWithin c.args.nodes.now (slots_of whole) c.args.limit c.oldest_within_in.result) (sym at.whole)
    (within_left c.args.nodes.now at.before at.after c.args.limit c.oldest_within_in.result at.order
    (c.oldest_within_in.ensures at.before at.to_left least))

pub returns : goal.returns
returns t c = λ tree here small.
    let odd : c.args.link % 2 ≡ 1 = omega arith in
    let at = branch_at c.args.nodes.now c.args.link tree c.fork_at-fork.result here odd c.fork_at-fork.ensures in
    let long : c.args.limit < least_of c.args.nodes.now at.before =
    omega (arith, c.least_in.ensures, least_at_link c.args.nodes.now c.fork_at-fork.result.left at.before at.to_left, c.if-least_in-limit.false) in
    let whole : least_of c.args.nodes.now tree ≡ min (least_of c.args.nodes.now at.before) (least_of c.args.nodes.now at.after) =
    ap (least_of c.args.nodes.now) at.whole in
    let least : least_of c.args.nodes.now at.after ≤ c.args.limit = omega (arith, whole, long, small) in
    subst (λ whole. IsOldestWithin c.args.nodes.now (slots_of whole) c.args.limit c.oldest_within_in-2.result) (sym at.whole)
    (within_right c.args.nodes.now at.before at.after c.args.limit c.oldest_within_in-2.result long
    (c.oldest_within_in-2.ensures at.after at.to_right least))
