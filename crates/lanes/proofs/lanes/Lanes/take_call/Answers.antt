use Rattle.std.proofs.Common.{arith}
use Rattle.lanes.proofs.lanes.Lanes.take_call.Goals as goal

pub take_call-requires-clause-words : goal.take_call-requires-clause-words
take_call-requires-clause-words c = omega (arith, c.self.invariant.0, c.self.invariant.7)
