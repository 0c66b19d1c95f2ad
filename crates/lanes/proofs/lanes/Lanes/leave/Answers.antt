use Rattle.std.proofs.Common.{arith}
use Rattle.lanes.proofs.lanes.Lanes.leave.Goals as goal

pub leave-requires-clause-words : goal.leave-requires-clause-words
leave-requires-clause-words c = omega (arith, c.self.invariant.0, c.self.invariant.7)
