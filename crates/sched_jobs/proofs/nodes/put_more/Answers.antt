-- The fork joins the left tree and the new one.
use Rattle.std.proofs.Common.{◌+◌, ◌*◌, min, refl, ap, ◌∙◌, arith}
use Rattle.sched_jobs.specs.InnerQueue.Tree.{fork_of}
use Rattle.sched_jobs.proofs.TreeLemmas.{made_pair, pair_is_small, place_inside}
use Rattle.sched_jobs.proofs.nodes.put_more.Goals as goal

pub fork_at-fork-requires : goal.fork_at-fork-requires
fork_at-fork-requires c =
    place_inside c.args.nodes.now c.args.place _ c.args.right c.requires.0 c.requires.1.0 c.requires.1.1.pair

pub estimate_at-requires : goal.estimate_at-requires
estimate_at-requires c = c.requires.1.1.inside

pub overflow_add-size : goal.overflow_add-size
overflow_add-size c =
    let more = c.requires.1.1 in
    let small = pair_is_small c.args.nodes.now c.args.place _ c.args.right c.requires.0 c.requires.1.0 more.pair in
    let read = ap (λ f. f.size) c.fork_at-fork.ensures in
    omega (arith, small, read, more.counted)

pub put_fork-requires : goal.put_fork-requires
put_fork-requires c =
    place_inside c.args.nodes.now c.args.place _ c.args.right c.requires.0 c.requires.1.0 c.requires.1.1.pair

pub returns-clause-tree : goal.returns-clause-tree
returns-clause-tree c = λ before after more.
    let made = c.put_fork.ensures.fork in
    let read = c.fork_at-fork.ensures in
    made_pair c.args.nodes.now c.put_fork.new.nodes c.args.place (fork_of c.args.nodes.now c.args.place).left c.args.right (2 * c.args.place + 1)
    before after more.pair c.put_fork.ensures.others refl
    (ap (λ f. f.left) made ∙ ap (λ f. f.left) read) (ap (λ f. f.right) made)
    (ap (λ f. f.size) made ∙ ap (λ f. f.size + 1) read ∙ more.counted)
    (ap (λ f. f.least) made ∙ c.min-least.ensures ∙ ap (λ f. min f.least c.estimate_at.result) read
    ∙ ap (min (fork_of c.args.nodes.now c.args.place).least) c.estimate_at.ensures ∙ more.lowest)
