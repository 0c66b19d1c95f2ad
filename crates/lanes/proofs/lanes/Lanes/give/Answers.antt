use Rattle.std.proofs.Common.{arith}
use Rattle.lanes.proofs.lanes.Lanes.give.Goals as goal

pub give-requires-clause-words : goal.give-requires-clause-words
give-requires-clause-words c = omega (arith, c.self.invariant.0, c.self.invariant.7)
