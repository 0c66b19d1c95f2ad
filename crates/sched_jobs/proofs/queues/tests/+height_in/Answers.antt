-- Each way down has fewer forks than there are items.
use Rattle.std.proofs.Common.{◌≡◌, ◌+◌, ◌%◌, ap, arith}
use Rattle.sched_jobs.specs.InnerQueue.Tree.{size_of}
use Rattle.sched_jobs.proofs.TreeLemmas.{branch_at, few_items}
use Rattle.sched_jobs.proofs.queues.tests.+height_in.Goals as goal

pub height_in-left-requires : goal.height_in-left-requires
height_in-left-requires t c =
    let odd : c.args.link % 2 ≡ 1 = omega arith in
    let at = branch_at c.args.nodes.now c.args.link c.requires.0 c.fork_at-fork.result c.requires.1 odd c.fork_at-fork.ensures in
    let less = at.left_smaller in
    (omega (arith, less), (at.before, at.to_left))

pub height_in-right-requires : goal.height_in-right-requires
height_in-right-requires t c =
    let odd : c.args.link % 2 ≡ 1 = omega arith in
    let at = branch_at c.args.nodes.now c.args.link c.requires.0 c.fork_at-fork.result c.requires.1 odd c.fork_at-fork.ensures in
    let less = at.right_smaller in
    (omega (arith, less), (at.after, at.to_right))

pub overflow_add-result : goal.overflow_add-result
overflow_add-result t c =
    let odd : c.args.link % 2 ≡ 1 = omega arith in
    let at = branch_at c.args.nodes.now c.args.link c.requires.0 c.fork_at-fork.result c.requires.1 odd c.fork_at-fork.ensures in
    let left = c.height_in-left.ensures at.before at.to_left in
    let right = c.height_in-right.ensures at.after at.to_right in
    let few = few_items c.args.nodes.now c.requires.0 c.requires.1.held in
    let limit = c.requires.1.limit in
    let whole : size_of c.requires.0 ≡ size_of at.before + size_of at.after = ap size_of at.whole in
    omega (arith, left, right, few, limit, whole, c.max.ensures)

pub returns : goal.returns
returns t c = λ tree here.
    let odd : c.args.link % 2 ≡ 1 = omega arith in
    let at = branch_at c.args.nodes.now c.args.link tree c.fork_at-fork.result here odd c.fork_at-fork.ensures in
    let left = c.height_in-left.ensures at.before at.to_left in
    let right = c.height_in-right.ensures at.after at.to_right in
    let whole : size_of tree ≡ size_of at.before + size_of at.after = ap size_of at.whole in
    omega (arith, left, right, whole, c.max.ensures)
