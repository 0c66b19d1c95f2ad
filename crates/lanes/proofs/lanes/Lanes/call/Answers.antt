use Rattle.std.proofs.Common.{arith}
use Rattle.lanes.proofs.lanes.Lanes.call.Goals as goal

pub call-requires-clause-words : goal.call-requires-clause-words
call-requires-clause-words c = omega (arith, c.self.invariant.0, c.self.invariant.7)
