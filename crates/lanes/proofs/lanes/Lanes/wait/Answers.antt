use Rattle.std.proofs.Common.{arith}
use Rattle.lanes.proofs.lanes.Lanes.wait.Goals as goal

pub wait-requires-clause-words : goal.wait-requires-clause-words
wait-requires-clause-words c = omega (arith, c.self.invariant.0, c.self.invariant.7)
