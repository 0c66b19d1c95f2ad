-- No node that was passed on the way up from the processor's leaf was taken.
use Rattle.fit_tree.proofs.BlockLemmas.{IsPassed}
use Rattle.fit_tree.proofs.image.block_with.Given as goal

abbrev pub invariant-loop-dim : goal.invariant-loop-dim
invariant-loop-dim l = IsPassed l.n l.rooms l.processor l.dim l.node
