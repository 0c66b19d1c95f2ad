-- The fork joins the two trees, with one item less.
use Rattle.std.proofs.Common.{◌≡◌, ◌+◌, ◌*◌, ◌-◌, refl, ap, ◌∙◌, arith}
use Rattle.sched_jobs.specs.InnerQueue.Tree.{size_of}
use Rattle.sched_jobs.proofs.TreeLemmas.{made_pair, place_inside}
use Rattle.sched_jobs.proofs.nodes.put_less.Goals as goal

pub least_without-least-requires : goal.least_without-least-requires
least_without-least-requires c = c.requires

pub overflow_sub-size : goal.overflow_sub-size
overflow_sub-size c =
    let counted = c.requires.1.1.counted in omega arith

pub put_fork-requires : goal.put_fork-requires
put_fork-requires c =
    place_inside c.args.nodes.now c.args.place c.args.fork.left c.args.fork.right c.requires.0 c.requires.1.0 c.requires.1.1.pair

pub returns-clause-tree : goal.returns-clause-tree
returns-clause-tree c = λ before after less.
    let made = c.put_fork.ensures.fork in
    let counted = less.counted in
    let size : c.args.fork.size - 1 ≡ size_of before + size_of after = omega arith in
    made_pair c.args.nodes.now c.put_fork.new.nodes c.args.place c.args.fork.left c.args.fork.right (2 * c.args.place + 1) before after less.pair
    c.put_fork.ensures.others refl
    (ap (λ f. f.left) made) (ap (λ f. f.right) made)
    (ap (λ f. f.size) made ∙ size)
    (ap (λ f. f.least) made ∙ c.least_without-least.ensures before after less)
