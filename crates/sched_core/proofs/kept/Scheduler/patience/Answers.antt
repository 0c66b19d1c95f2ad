use Rattle.std.proofs.Common.{sym, subst}
use Rattle.sched_core.specs.Shows.{ShowsCore}
use Rattle.sched_core.proofs.kept.Scheduler.patience.Goals as goal

pub returns : goal.returns
returns c = λ w k. c.patience.ensures w (subst (ShowsCore w) (sym c.self.view_is) k)
