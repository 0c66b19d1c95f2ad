use Rattle.locked_peers.proofs.FloorDealLemmas.{opens}
use Rattle.locked_peers.proofs.floor_lock.BitsLock.new.Goals as goal

pub new-requires-2 : goal.new-requires-2
new-requires-2 c = opens _ _ c.in_ok-bits.ensures.dim c.in_ok-bits.ensures.free
