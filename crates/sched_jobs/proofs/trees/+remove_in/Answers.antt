-- The item is left or right, and either a leaf below the fork or further down.
use Rattle.std.proofs.Common.{◌<◌, ◌≤◌, ◌/◌, arith}
use Rattle.sched_jobs.specs.Nodes.{key_of}
use Rattle.sched_jobs.proofs.TreeLemmas.{branch_at, slots_inside}
use Rattle.sched_jobs.proofs.RemoveLemmas.{can_remove_left, can_remove_right, place_is, remove_left, remove_left_leaf, remove_left_less, remove_right, remove_right_leaf, remove_right_less}
use Rattle.sched_jobs.proofs.trees.+remove_in.Goals as goal

pub key_at-requires : goal.key_at-requires
key_at-requires t c =
    slots_inside c.args.nodes.now c.requires.0 c.requires.1.found.held c.args.slot c.requires.1.one_of

pub returns-then-is_leaf_of : goal.returns-then-is_leaf_of
returns-then-is_leaf_of t c = λ tree can.
    let at = branch_at c.args.nodes.now c.args.link tree c.fork_at-fork.result can.found can.forked c.fork_at-fork.ensures in
    let less : key_of c.args.nodes.now c.args.slot < key_of c.args.nodes.now (c.args.link / 2) = omega (arith, c.key_at.ensures, c.key_at-2.ensures, c.if-key_at.true) in
    remove_left_leaf c.args.nodes.now c.args.link c.args.slot tree c.fork_at-fork.result can at less (c.is_leaf_of.ensures.yes c.if-is_leaf_of.true)

pub remove_in-left-requires : goal.remove_in-left-requires
remove_in-left-requires t c =
    let at = branch_at c.args.nodes.now c.args.link c.requires.0 c.fork_at-fork.result c.requires.1.found c.requires.1.forked c.fork_at-fork.ensures in
    let less : key_of c.args.nodes.now c.args.slot < key_of c.args.nodes.now (c.args.link / 2) = omega (arith, c.key_at.ensures, c.key_at-2.ensures, c.if-key_at.true) in
    let smaller = at.left_smaller in
    (omega (arith, smaller), (at.before, can_remove_left c.args.nodes.now c.args.link c.args.slot c.requires.0 c.fork_at-fork.result c.requires.1 at less (c.is_leaf_of.ensures.no c.if-is_leaf_of.false)))

pub put_less-requires : goal.put_less-requires
put_less-requires t c =
    let at = branch_at c.args.nodes.now c.args.link c.requires.0 c.fork_at-fork.result c.requires.1.found c.requires.1.forked c.fork_at-fork.ensures in
    let less : key_of c.args.nodes.now c.args.slot < key_of c.args.nodes.now (c.args.link / 2) = omega (arith, c.key_at.ensures, c.key_at-2.ensures, c.if-key_at.true) in
    let done = c.remove_in-left.ensures at.before (can_remove_left c.args.nodes.now c.args.link c.args.slot c.requires.0 c.fork_at-fork.result c.requires.1 at less (c.is_leaf_of.ensures.no c.if-is_leaf_of.false)) in
    (done.made, (at.after, remove_left_less c.args.nodes.now c.args.link c.args.slot c.requires.0 c.fork_at-fork.result c.requires.1 at c.remove_in-left.new.nodes c.remove_in-left.result c.remove_in-left.new.next less done c.fork_at-again.result c.fork_at-again.ensures))

pub returns-then-key_at : goal.returns-then-key_at
returns-then-key_at t c = λ tree can.
    let at = branch_at c.args.nodes.now c.args.link tree c.fork_at-fork.result can.found can.forked c.fork_at-fork.ensures in
    let less : key_of c.args.nodes.now c.args.slot < key_of c.args.nodes.now (c.args.link / 2) = omega (arith, c.key_at.ensures, c.key_at-2.ensures, c.if-key_at.true) in
    let done = c.remove_in-left.ensures at.before (can_remove_left c.args.nodes.now c.args.link c.args.slot tree c.fork_at-fork.result can at less (c.is_leaf_of.ensures.no c.if-is_leaf_of.false)) in
    remove_left c.args.nodes.now c.args.link c.args.slot tree c.fork_at-fork.result can at c.remove_in-left.new.nodes c.remove_in-left.result c.remove_in-left.new.next less done c.put_less.new.nodes c.put_less.result
    c.put_less.ensures.others
    (c.put_less.ensures.tree done.made at.after (remove_left_less c.args.nodes.now c.args.link c.args.slot tree c.fork_at-fork.result can at c.remove_in-left.new.nodes c.remove_in-left.result c.remove_in-left.new.next less done c.fork_at-again.result c.fork_at-again.ensures))

pub returns-then-is_leaf_of-2 : goal.returns-then-is_leaf_of-2
returns-then-is_leaf_of-2 t c = λ tree can.
    let at = branch_at c.args.nodes.now c.args.link tree c.fork_at-fork.result can.found can.forked c.fork_at-fork.ensures in
    let most : key_of c.args.nodes.now (c.args.link / 2) ≤ key_of c.args.nodes.now c.args.slot = omega (arith, c.key_at.ensures, c.key_at-2.ensures, c.if-key_at.false) in
    remove_right_leaf c.args.nodes.now c.args.link c.args.slot tree c.fork_at-fork.result can at c.args.next.now most (c.is_leaf_of-2.ensures.yes c.if-is_leaf_of-2.true)

pub remove_in-right-requires : goal.remove_in-right-requires
remove_in-right-requires t c =
    let at = branch_at c.args.nodes.now c.args.link c.requires.0 c.fork_at-fork.result c.requires.1.found c.requires.1.forked c.fork_at-fork.ensures in
    let most : key_of c.args.nodes.now (c.args.link / 2) ≤ key_of c.args.nodes.now c.args.slot = omega (arith, c.key_at.ensures, c.key_at-2.ensures, c.if-key_at.false) in
    let smaller = at.right_smaller in
    (omega (arith, smaller), (at.after, can_remove_right c.args.nodes.now c.args.link c.args.slot c.requires.0 c.fork_at-fork.result c.requires.1 at most (c.is_leaf_of-2.ensures.no c.if-is_leaf_of-2.false)))

pub put_less-requires-2 : goal.put_less-requires-2
put_less-requires-2 t c =
    let at = branch_at c.args.nodes.now c.args.link c.requires.0 c.fork_at-fork.result c.requires.1.found c.requires.1.forked c.fork_at-fork.ensures in
    let most : key_of c.args.nodes.now (c.args.link / 2) ≤ key_of c.args.nodes.now c.args.slot = omega (arith, c.key_at.ensures, c.key_at-2.ensures, c.if-key_at.false) in
    let done = c.remove_in-right.ensures at.after (can_remove_right c.args.nodes.now c.args.link c.args.slot c.requires.0 c.fork_at-fork.result c.requires.1 at most (c.is_leaf_of-2.ensures.no c.if-is_leaf_of-2.false)) in
    let is = place_is c.args.nodes.now c.args.link c.args.slot c.requires.0 c.fork_at-fork.result c.requires.1 at c.remove_in-right.new.nodes c.remove_in-right.result c.remove_in-right.new.next c.first_after-place.result most done c.first_after-place.ensures.stays c.first_after-place.ensures.goes in
    (at.before, (done.made, remove_right_less c.args.nodes.now c.args.link c.args.slot c.requires.0 c.fork_at-fork.result c.requires.1 at c.remove_in-right.new.nodes c.remove_in-right.result c.remove_in-right.new.next c.first_after-place.result most done c.fork_at-again-2.result c.fork_at-again-2.ensures is))

pub returns : goal.returns
returns t c = λ tree can.
    let at = branch_at c.args.nodes.now c.args.link tree c.fork_at-fork.result can.found can.forked c.fork_at-fork.ensures in
    let most : key_of c.args.nodes.now (c.args.link / 2) ≤ key_of c.args.nodes.now c.args.slot = omega (arith, c.key_at.ensures, c.key_at-2.ensures, c.if-key_at.false) in
    let done = c.remove_in-right.ensures at.after (can_remove_right c.args.nodes.now c.args.link c.args.slot tree c.fork_at-fork.result can at most (c.is_leaf_of-2.ensures.no c.if-is_leaf_of-2.false)) in
    let is = place_is c.args.nodes.now c.args.link c.args.slot tree c.fork_at-fork.result can at c.remove_in-right.new.nodes c.remove_in-right.result c.remove_in-right.new.next c.first_after-place.result most done c.first_after-place.ensures.stays c.first_after-place.ensures.goes in
    remove_right c.args.nodes.now c.args.link c.args.slot tree c.fork_at-fork.result can at c.remove_in-right.new.nodes c.remove_in-right.result c.remove_in-right.new.next c.first_after-place.result most done c.put_less-2.new.nodes c.put_less-2.result is
    c.put_less-2.ensures.others
    (c.put_less-2.ensures.tree at.before done.made (remove_right_less c.args.nodes.now c.args.link c.args.slot tree c.fork_at-fork.result can at c.remove_in-right.new.nodes c.remove_in-right.result c.remove_in-right.new.next c.first_after-place.result most done c.fork_at-again-2.result c.fork_at-again-2.ensures is))
