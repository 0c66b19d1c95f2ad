use Rattle.locked_peers.proofs.LineDealLemmas.{opens}
use Rattle.locked_peers.proofs.store_lock.StoreLock.new.Goals as goal

pub new-requires-2 : goal.new-requires-2
new-requires-2 c = opens _ _ c.requires c.in_ok-store.ensures
