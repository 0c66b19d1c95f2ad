-- The item is joined with the tree, or appended to the right part.
use Rattle.std.proofs.Common.{◌≡◌, ◌%◌, arith}
use Rattle.sched_jobs.specs.InnerQueue.Tree.{leaf}
use Rattle.sched_jobs.proofs.TreeLemmas.{branch_at}
use Rattle.sched_jobs.proofs.PushLemmas.{can_push_right, push_here, push_here_pair, push_right, push_right_more}
use Rattle.sched_jobs.proofs.trees.+push_in.Goals as goal

pub make_fork-requires : goal.make_fork-requires
make_fork-requires t c =
    (c.requires.0, (leaf c.args.slot, push_here_pair c.args.nodes.now c.args.link c.args.slot c.requires.0 c.requires.1))

pub returns-then-is_joined_here : goal.returns-then-is_joined_here
returns-then-is_joined_here t c = λ tree can.
    push_here c.args.nodes.now c.make_fork.new.nodes c.args.link c.args.slot c.make_fork.result tree can c.make_fork.ensures.others
    (c.make_fork.ensures.tree tree (leaf c.args.slot) (push_here_pair c.args.nodes.now c.args.link c.args.slot tree can))

pub push_in-right-requires : goal.push_in-right-requires
push_in-right-requires t c =
    let odd : c.args.link % 2 ≡ 1 = c.is_joined_here.ensures c.if-is_joined_here.false in
    let at = branch_at c.args.nodes.now c.args.link c.requires.0 c.fork_at-fork.result c.requires.1.found odd c.fork_at-fork.ensures in
    let less = at.right_smaller in
    (omega (arith, less), (at.after, can_push_right c.args.nodes.now c.args.link c.args.slot c.requires.0 c.fork_at-fork.result c.requires.1 at))

pub put_more-requires : goal.put_more-requires
put_more-requires t c =
    let odd : c.args.link % 2 ≡ 1 = c.is_joined_here.ensures c.if-is_joined_here.false in
    let at = branch_at c.args.nodes.now c.args.link c.requires.0 c.fork_at-fork.result c.requires.1.found odd c.fork_at-fork.ensures in
    let done = c.push_in-right.ensures at.after (can_push_right c.args.nodes.now c.args.link c.args.slot c.requires.0 c.fork_at-fork.result c.requires.1 at) in
    (at.before, (done.made, push_right_more c.args.nodes.now c.push_in-right.new.nodes c.args.link c.args.slot c.push_in-right.result c.requires.0 c.fork_at-fork.result c.requires.1 at done))

pub returns : goal.returns
returns t c = λ tree can.
    let odd : c.args.link % 2 ≡ 1 = c.is_joined_here.ensures c.if-is_joined_here.false in
    let at = branch_at c.args.nodes.now c.args.link tree c.fork_at-fork.result can.found odd c.fork_at-fork.ensures in
    let done = c.push_in-right.ensures at.after (can_push_right c.args.nodes.now c.args.link c.args.slot tree c.fork_at-fork.result can at) in
    let more = push_right_more c.args.nodes.now c.push_in-right.new.nodes c.args.link c.args.slot c.push_in-right.result tree c.fork_at-fork.result can at done in
    push_right c.args.nodes.now c.push_in-right.new.nodes c.put_more.new.nodes c.args.link c.args.slot c.push_in-right.result c.put_more.result tree c.fork_at-fork.result can at done
    c.put_more.ensures.others (c.put_more.ensures.tree at.before done.made more)
