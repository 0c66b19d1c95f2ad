use Rattle.std.proofs.Common.{arith}
use Rattle.lanes.proofs.lanes.Lanes.before_park.Goals as goal

pub before_park-requires-clause-words : goal.before_park-requires-clause-words
before_park-requires-clause-words c = omega (arith, c.self.invariant.0, c.self.invariant.7)
