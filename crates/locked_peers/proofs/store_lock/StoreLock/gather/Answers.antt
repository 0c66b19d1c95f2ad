use Rattle.locked_peers.proofs.LineDealLemmas.{joins_views}
use Rattle.locked_peers.proofs.store_lock.StoreLock.gather.Goals as goal

pub gather-requires-clause-joins : goal.gather-requires-clause-joins
gather-requires-clause-joins c = joins_views _ _ _ _ _ c.requires.idle.0.1 c.requires.idle.1.1 c.requires.idle.0.2
