use Rattle.std.proofs.Common.{arith}
use Rattle.lanes.proofs.lanes.Lanes.lie_down.Goals as goal

pub lie_down-requires-clause-words : goal.lie_down-requires-clause-words
lie_down-requires-clause-words c = omega (arith, c.self.invariant.0, c.self.invariant.7)
