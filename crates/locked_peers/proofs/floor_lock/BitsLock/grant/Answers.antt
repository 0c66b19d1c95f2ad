use Rattle.std.proofs.Common.{refl}
use Rattle.locked_peers.proofs.FloorStepLemmas.{grants_step}
use Rattle.locked_peers.proofs.floor_lock.BitsLock.grant.Goals as goal

pub give_back-requires-clause-allows : goal.give_back-requires-clause-allows
give_back-requires-clause-allows c = let t = c.requires.ready in grants_step _ 1 refl _ _ t.0 t.1 t.2 t.3 t.4 t.5 t.6
