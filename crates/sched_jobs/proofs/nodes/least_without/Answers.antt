-- The least is another's, or it is looked for.
use Rattle.std.proofs.Common.{◌≤◌, min, ap, ◌∙◌, arith}
use Rattle.sched_jobs.specs.Nodes.{estimate_of}
use Rattle.sched_jobs.specs.InnerQueue.Tree.{first_of, least_of}
use Rattle.sched_jobs.proofs.TreeLemmas.{has_first, least_of_pair, place_inside}
use Rattle.sched_jobs.proofs.FindLemmas.{least_is_least}
use Rattle.sched_jobs.proofs.nodes.least_without.Goals as goal
use Rattle.sched_jobs.proofs.nodes.least_without.Goals.{then-fork-estimate_at-via-then-fork-estimate_at, then-fork-estimate_at-via-else-fork-estimate_at+then-fork-estimate_at-2}

pub estimate_at-requires : goal.estimate_at-requires
estimate_at-requires c = c.requires.1.1.inside

pub estimate_at-requires-else-fork-estimate_at : goal.estimate_at-requires-else-fork-estimate_at
estimate_at-requires-else-fork-estimate_at c =
    place_inside c.args.nodes.now c.args.place c.args.fork.left c.args.fork.right c.requires.0 c.requires.1.0 c.requires.1.1.pair

pub returns-then-fork-estimate_at : goal.returns-then-fork-estimate_at
returns-then-fork-estimate_at c = λ before after less.
    let lowest = less.lowest in
    elim c.then-fork-estimate_at.branch [
      | then-fork-estimate_at-via-then-fork-estimate_at w ↦ omega (arith, lowest, c.estimate_at.ensures, w.if-fork-estimate_at.true)
      | then-fork-estimate_at-via-else-fork-estimate_at+then-fork-estimate_at-2 w ↦ (
          let here : least_of c.args.nodes.now after ≤ estimate_of c.args.nodes.now c.args.place =
          (let least = least_is_least c.args.nodes.now after (first_of after) (has_first after) in
          let same = ap (estimate_of c.args.nodes.now) less.pair.place in omega arith) in
          omega (arith, lowest, here, w.estimate_at-else-fork-estimate_at.ensures, w.if-fork-estimate_at-2.true))
    ]

pub returns : goal.returns
returns c = λ before after less.
    let leasts = least_of_pair c.args.nodes.now c.args.place c.args.fork.left c.args.fork.right before after less.pair in
    c.min.ensures ∙ ap (λ a. min a c.least_in-2.result) c.least_in.ensures ∙ ap (min _) c.least_in-2.ensures ∙ leasts
