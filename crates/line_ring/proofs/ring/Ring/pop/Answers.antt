use Rattle.line_ring.proofs.KeepLemmas.{takes, pass_learns}
use Rattle.line_ring.proofs.ring.Ring.pop.Goals as goal

pub pop_as-requires-clause-rule : goal.pop_as-requires-clause-rule
pop_as-requires-clause-rule g c = let known = c.pass.invariant.known in (takes _ _ _ _ _ known, pass_learns _ _ _ _ _ known)
