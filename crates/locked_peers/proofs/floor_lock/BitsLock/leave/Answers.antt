use Rattle.std.proofs.Common.{refl}
use Rattle.locked_peers.proofs.FloorStepLemmas.{leaves_step}
use Rattle.locked_peers.proofs.floor_lock.BitsLock.leave.Goals as goal

pub give_back-requires-clause-allows : goal.give_back-requires-clause-allows
give_back-requires-clause-allows c = let t = c.requires.ready in leaves_step _ 1 refl _ _ t.0 t.1 t.2
