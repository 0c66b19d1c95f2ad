-- A queue with an item has a tree.
use Rattle.std.proofs.Common.{inl, inr}
use Rattle.sched_jobs.proofs.queues.tests.height.Goals as goal

pub height_in-requires : goal.height_in-requires
height_in-requires c =
    let empty = c.is_empty.ensures c.args.nodes.now c.requires.0 c.requires.1 in
    elim c.requires.1.shape [
      | inl none ↦ (let yes = empty.1 none.1 in let no = c.if-is_empty.false in cc)
      | inr some ↦ (some.tree, some.found)
    ]
