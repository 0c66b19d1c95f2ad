use Rattle.locked_peers.proofs.FloorEndLemmas.{ends}
use Rattle.locked_peers.proofs.floor_lock.BitsLock.end.Goals as goal

pub returns-clause-dim : goal.returns-clause-dim
returns-clause-dim c = (ends _ _ _ _ c.end.ensures c.requires.whole).0

pub returns-clause-free : goal.returns-clause-free
returns-clause-free c = (ends _ _ _ _ c.end.ensures c.requires.whole).1
