use Rattle.locked_peers.proofs.LineDealLemmas.{deals_pass}
use Rattle.locked_peers.proofs.store_lock.StoreLock.deal_pass.Goals as goal

pub deal-requires-clause-cut : goal.deal-requires-clause-cut
deal-requires-clause-cut c = deals_pass _ _ _ c.requires.idle.1
