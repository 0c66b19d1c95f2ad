use Rattle.std.proofs.Common.{subst}
use Rattle.locked_peers.specs.InnerFloor.Step.{Sat, AreFirstTwoApart}
use Rattle.locked_peers.proofs.FloorStepLemmas.{compares}
use Rattle.locked_peers.proofs.floor_lock.BitsLock.compare.Goals as goal

pub look-requires-clause-allows : goal.look-requires-clause-allows
look-requires-clause-allows c = let t = c.requires.pair in compares _ _ _ _ t.0 t.1 t.2

pub returns-clause-apart : goal.returns-clause-apart
returns-clause-apart c = λ a b is. subst (λ (m : Sat). AreFirstTwoApart m.0.stations) is c.look.ensures.learned.1
