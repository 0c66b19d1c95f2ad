use Rattle.locked_peers.proofs.LineStepLemmas.{enters}
use Rattle.locked_peers.proofs.store_lock.StoreLock.enter.Goals as goal

pub enter-requires-clause-may : goal.enter-requires-clause-may
enter-requires-clause-may g c = enters _ _ _ _ c.requires.idle
