use Rattle.std.proofs.Common.{sym, ap, not, ◌∙◌}
use Rattle.dispatcher_threads.proofs.DoneLemmas.{not_true, all_run, none_idle}
use Rattle.dispatcher_threads.proofs.answering.is_done.Goals as goal

pub returns-then-all_fed : goal.returns-then-all_fed
returns-then-all_fed g c = (
  λ is. record {
    lanes = (rw c.deref.ensures.value at c.all_fed.ensures).0 c.if-all_fed.true;
    workers = all_run _ (sym (rw c.deref-then-all_fed.ensures.value at c.any_idle.ensures) ∙ not_true _ is);
  },
  λ done. ap not ((rw c.deref-then-all_fed.ensures.value at c.any_idle.ensures) ∙ none_idle _ done.workers),
)
