-- The new fork joins the two trees.
use Rattle.std.proofs.Common.{◌+◌, ◌*◌, min, refl, ap, ◌∙◌, arith}
use Rattle.sched_jobs.specs.InnerQueue.Changes.{least_at, size_at}
use Rattle.sched_jobs.proofs.TreeLemmas.{least_of_pair, made_pair, pair_is_small, place_inside, size_of_pair}
use Rattle.sched_jobs.proofs.nodes.make_fork.Goals as goal

pub overflow_add-size : goal.overflow_add-size
overflow_add-size c =
    let small = pair_is_small c.args.nodes.now c.args.slot c.args.left c.args.right c.requires.0 c.requires.1.0 c.requires.1.1 in
    let sizes = size_of_pair c.args.nodes.now c.args.slot c.args.left c.args.right c.requires.0 c.requires.1.0 c.requires.1.1 in
    omega (arith, small, sizes, c.size_in.ensures, c.size_in-2.ensures)

pub put_fork-requires : goal.put_fork-requires
put_fork-requires c =
    place_inside c.args.nodes.now c.args.slot c.args.left c.args.right c.requires.0 c.requires.1.0 c.requires.1.1

pub returns-clause-tree : goal.returns-clause-tree
returns-clause-tree c = λ before after pair.
    let made = c.put_fork.ensures.fork in
    let sizes = size_of_pair c.args.nodes.now c.args.slot c.args.left c.args.right before after pair in
    let leasts = least_of_pair c.args.nodes.now c.args.slot c.args.left c.args.right before after pair in
    made_pair c.args.nodes.now c.put_fork.new.nodes c.args.slot c.args.left c.args.right (2 * c.args.slot + 1) before after pair
    c.put_fork.ensures.others refl
    (ap (λ f. f.left) made) (ap (λ f. f.right) made)
    (ap (λ f. f.size) made ∙ ap (λ a. a + c.size_in-2.result) c.size_in.ensures ∙ ap (λ a. size_at c.args.nodes.now c.args.left + a) c.size_in-2.ensures ∙ sizes)
    (ap (λ f. f.least) made ∙ c.min-least.ensures ∙ ap (λ a. min a c.least_in-2.result) c.least_in.ensures ∙ ap (min (least_at c.args.nodes.now c.args.left)) c.least_in-2.ensures ∙ leasts)
