use Rattle.std.proofs.Common.{arith}
use Rattle.lanes.proofs.lanes.Lanes.find_call.Goals as goal

pub find_call-requires-clause-words : goal.find_call-requires-clause-words
find_call-requires-clause-words c = omega (arith, c.self.invariant.0, c.self.invariant.7)
