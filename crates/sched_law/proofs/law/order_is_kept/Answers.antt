use Rattle.sched_law.proofs.LawLemmas.{in_order}
use Rattle.sched_law.proofs.law.order_is_kept.Goals as goal

pub returns : goal.returns
returns c = λ w v i j older wait safe decides waits before older_waits smaller. in_order w v i j older wait safe waits before older_waits smaller decides
