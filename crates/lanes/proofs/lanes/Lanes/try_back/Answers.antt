use Rattle.std.proofs.Common.{arith}
use Rattle.lanes.proofs.lanes.Lanes.try_back.Goals as goal

pub try_back-requires-clause-words : goal.try_back-requires-clause-words
try_back-requires-clause-words c = omega (arith, c.self.invariant.0, c.self.invariant.7)
