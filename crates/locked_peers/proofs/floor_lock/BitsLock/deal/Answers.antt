use Rattle.locked_peers.proofs.FloorDealLemmas.{deals}
use Rattle.locked_peers.proofs.floor_lock.BitsLock.deal.Goals as goal

pub deal-requires-clause-cut : goal.deal-requires-clause-cut
deal-requires-clause-cut c = deals _ _ _ c.requires.idle.1
