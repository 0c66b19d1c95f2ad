use Rattle.std.proofs.Common.{◌≡◌}
use Rattle.wake_pool.specs.declared.phase.WakePhase.TheVariants.{Idle}
use Rattle.lanes.specs.Inner.Pool.{known_sat}
use Rattle.lanes.specs.Inner.Step.{ClosesLanes}
use Rattle.lanes.specs.Inner.Caller.{IsCaller}
use Rattle.lanes.proofs.lanes.Lanes.close_all.Given as goal

abbrev pub invariant-loop-lane : goal.invariant-loop-lane
invariant-loop-lane l = (l.seat.table_id ≡ l.self.table) × (l.plan ≡ l.self.plan) × ClosesLanes l.self.plan l.lane l.total (known_sat l.seat.me) × IsCaller l.self.plan Idle l.seat.me
