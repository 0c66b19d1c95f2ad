use Rattle.std.proofs.Common.{arith}
use Rattle.lanes.proofs.lanes.Lanes.claim.Goals as goal

pub claim-requires-clause-words : goal.claim-requires-clause-words
claim-requires-clause-words c = omega (arith, c.self.invariant.0, c.self.invariant.7)
