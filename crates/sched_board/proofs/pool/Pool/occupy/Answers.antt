use Rattle.std.proofs.Common.{◌↔◌, IsTrue, subst}
use Rattle.sched_law.specs.State.{Sched, IsVacant}
use Rattle.sched_core.specs.Shows.{ShowsCore}
use Rattle.sched_board.specs.Pool.{PoolData}
use Rattle.sched_board.proofs.pool.Pool.occupy.Goals as goal

pub returns-clause-vacant : goal.returns-clause-vacant
returns-clause-vacant c =
    subst (λ (x : PoolData). (w : Sched) → ShowsCore w x.core → IsTrue c.occupy.result ↔ IsVacant w c.args.region) c.self.view_is c.occupy.ensures.vacant
