-- The thread of the closer, which calls the workers.
use Rattle.std.specs.Prelude.{◌≡◌, [], ◌∷◌}
use Rattle.wake_pool.specs.declared.phase.WakePhase.{WakePhase as Phase}
use Rattle.lanes.specs.declared.sizes.Plan.{Plan}
use Rattle.lanes.specs.Inner.Pool.{BothSat, producer_of, thread_at}

-- the seat has this thread alone, after those of the producers, in this phase
pub record IsCaller (plan : Plan) (phase : Phase) (m : BothSat) : Type 0 where
  pub no_sleeper : m.0.sleepers ≡ []
  pub thread : m.0.others ≡ thread_at plan phase (producer_of plan plan.sizes.lanes) ∷ []
