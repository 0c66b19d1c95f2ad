use Rattle.locked_peers.proofs.LineEndLemmas.{ends}
use Rattle.locked_peers.proofs.store_lock.StoreLock.end.Goals as goal

pub returns : goal.returns
returns c = λ number whole. ends _ _ _ number _ c.end.ensures whole
