use Rattle.std.proofs.Common.{arith}
use Rattle.lanes.proofs.lanes.Lanes.rest.Goals as goal

pub rest-requires-clause-words : goal.rest-requires-clause-words
rest-requires-clause-words c = omega (arith, c.self.invariant.0, c.self.invariant.7)
