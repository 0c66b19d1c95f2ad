use Rattle.dispatcher.specs.Stop.{given_back}
use Rattle.dispatcher.proofs.EntryLemmas.{fed_by}
use Rattle.dispatcher.proofs.feeding.feed.Goals as goal

pub returns-clause-fed : goal.returns-clause-fed
returns-clause-fed g c = fed_by c.args.jobs.items (given_back c.hand_in.result.back) c.hand_in.result.left.items _ _ _ c.hand_in.ensures.entries
