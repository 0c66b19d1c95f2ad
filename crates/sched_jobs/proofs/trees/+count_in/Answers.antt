-- The fork's slot has the first key to its right, which says how many to count.
use Rattle.std.proofs.Common.{◌≡◌, ◌+◌, ◌<◌, ◌≤◌, ◌%◌, sym, ap, ◌∙◌, arith}
use Rattle.sched_jobs.specs.Nodes.{key_of}
use Rattle.sched_jobs.specs.InnerQueue.Tree.{first_of, slots_of, size_of}
use Rattle.sched_jobs.proofs.TreeLemmas.{branch_at, few_items, link_inside, size_at_link}
use Rattle.sched_jobs.proofs.FindLemmas.{lesser, lesser_is_small, lesser_left, lesser_right}
use Rattle.sched_jobs.proofs.trees.+count_in.Goals as goal

pub size_in-requires : goal.size_in-requires
size_in-requires t c =
    let odd : c.args.link % 2 ≡ 1 = omega arith in
    let at = branch_at c.args.nodes.now c.args.link c.requires.0 c.fork_at-fork.result c.requires.1 odd c.fork_at-fork.ensures in
    link_inside c.args.nodes.now c.fork_at-fork.result.left at.before at.to_left

pub count_in-requires : goal.count_in-requires
count_in-requires t c =
    let odd : c.args.link % 2 ≡ 1 = omega arith in
    let at = branch_at c.args.nodes.now c.args.link c.requires.0 c.fork_at-fork.result c.requires.1 odd c.fork_at-fork.ensures in
    let less = at.right_smaller in
    (omega (arith, less), (at.after, at.to_right))

pub count_in-requires-2 : goal.count_in-requires-2
count_in-requires-2 t c =
    let odd : c.args.link % 2 ≡ 1 = omega arith in
    let at = branch_at c.args.nodes.now c.args.link c.requires.0 c.fork_at-fork.result c.requires.1 odd c.fork_at-fork.ensures in
    let less = at.left_smaller in
    (omega (arith, less), (at.before, at.to_left))

pub overflow_add-result : goal.overflow_add-result
overflow_add-result t c =
    let odd : c.args.link % 2 ≡ 1 = omega arith in
    let at = branch_at c.args.nodes.now c.args.link c.requires.0 c.fork_at-fork.result c.requires.1 odd c.fork_at-fork.ensures in
    let small = lesser_is_small c.args.nodes.now c.args.key at.after in
    let left = size_at_link c.args.nodes.now c.fork_at-fork.result.left at.before at.to_left in
    let counted = c.count_in.ensures at.after at.to_right in
    let few = few_items c.args.nodes.now c.requires.0 c.requires.1.held in
    let limit = c.requires.1.limit in
    let whole : size_of c.requires.0 ≡ size_of at.before + size_of at.after = ap size_of at.whole in
    omega (arith, small, left, counted, few, limit, whole, c.size_in.ensures)

pub returns-then-is_before : goal.returns-then-is_before
returns-then-is_before t c = λ tree here.
    let odd : c.args.link % 2 ≡ 1 = omega arith in
    let at = branch_at c.args.nodes.now c.args.link tree c.fork_at-fork.result here odd c.fork_at-fork.ensures in
    let place = at.place in
    let less : key_of c.args.nodes.now (first_of at.after) < c.args.key =
    omega (arith, c.key_at.ensures, ap (key_of c.args.nodes.now) place, c.if-is_before.true) in
    let left = size_at_link c.args.nodes.now c.fork_at-fork.result.left at.before at.to_left in
    ap (λ n. n + c.count_in.result) (c.size_in.ensures ∙ left)
    ∙ ap (λ n. size_of at.before + n) (c.count_in.ensures at.after at.to_right)
    ∙ lesser_right c.args.nodes.now c.args.key at.before at.after at.order less
    ∙ sym (ap (λ whole. lesser c.args.nodes.now c.args.key (slots_of whole)) at.whole)

pub returns : goal.returns
returns t c = λ tree here.
    let odd : c.args.link % 2 ≡ 1 = omega arith in
    let at = branch_at c.args.nodes.now c.args.link tree c.fork_at-fork.result here odd c.fork_at-fork.ensures in
    let place = at.place in
    let most : c.args.key ≤ key_of c.args.nodes.now (first_of at.after) =
    omega (arith, c.key_at.ensures, ap (key_of c.args.nodes.now) place, c.if-is_before.false) in
    c.count_in-2.ensures at.before at.to_left
    ∙ lesser_left c.args.nodes.now c.args.key at.before at.after at.to_right.held most
    ∙ sym (ap (λ whole. lesser c.args.nodes.now c.args.key (slots_of whole)) at.whole)
