use Rattle.locked_peers.proofs.LineDealLemmas.{deals_lane}
use Rattle.locked_peers.proofs.store_lock.StoreLock.deal_lane.Goals as goal

pub deal-requires-clause-cut : goal.deal-requires-clause-cut
deal-requires-clause-cut c = deals_lane _ _ _ c.requires.idle.1
