use Rattle.std.proofs.Common.{arith}
use Rattle.lanes.proofs.lanes.Lanes.ring.Goals as goal

pub ring-requires-clause-words : goal.ring-requires-clause-words
ring-requires-clause-words c = omega (arith, c.self.invariant.0, c.self.invariant.7)
