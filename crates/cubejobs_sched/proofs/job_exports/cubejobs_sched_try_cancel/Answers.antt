-- The handle keeps the receipt of the call.
use Rattle.std.proofs.Common.{Option, sym, subst}
use Rattle.cubejobs_sched.specs.declared.ownership.Ownership.{Ownership}
use Rattle.cubejobs_sched.specs.Handle.{HasThreads}
use Rattle.cubejobs_sched.proofs.TurnLemmas.{kept}
use Rattle.cubejobs_sched.proofs.job_exports.cubejobs_sched_try_cancel.Goals as goal

pub returns-clause-made : goal.returns-clause-made
returns-clause-made c = λ _ _. kept _ _ _ _ _ _ _ _
    (subst (λ (o : Option Ownership). HasThreads o c.threads_at.result.now) (sym c.keep.ensures.owner) c.threads_at.ensures)
    c.keep.ensures.receipt c.cancel-receipt.ensures.made
