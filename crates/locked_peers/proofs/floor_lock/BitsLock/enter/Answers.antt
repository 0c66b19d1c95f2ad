use Rattle.locked_peers.proofs.FloorStepLemmas.{enters}
use Rattle.locked_peers.proofs.floor_lock.BitsLock.enter.Goals as goal

pub enter-requires-clause-may : goal.enter-requires-clause-may
enter-requires-clause-may g c = enters _ _ _ _ c.requires.idle
