use Rattle.std.proofs.Common.{refl}
use Rattle.locked_peers.proofs.LineStepLemmas.{reads_step}
use Rattle.locked_peers.proofs.store_lock.StoreLock.read.Goals as goal

pub give_back-requires-clause-allows : goal.give_back-requires-clause-allows
give_back-requires-clause-allows c = let t = c.requires.ready in reads_step _ 1 refl _ _ t.0 t.1 t.2 t.3 t.4 t.5
