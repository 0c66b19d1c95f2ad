use Rattle.dispatcher.proofs.WorkLemmas.{no_limit}
use Rattle.dispatcher.proofs.dispatching.dispatch_with.Goals as goal

pub returns-clause-no_limit : goal.returns-clause-no_limit
returns-clause-no_limit g c = λ stop. no_limit _ (c.work.ensures.enough stop)
