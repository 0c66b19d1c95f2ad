use Rattle.dispatcher.proofs.EntryLemmas.{limit_is}
use Rattle.dispatcher.proofs.dispatching.dispatch_some.Goals as goal

pub returns-clause-enough : goal.returns-clause-enough
returns-clause-enough g c = λ stop. limit_is _ _ (c.work.ensures.enough stop)
