-- The closer is a thread that calls workers.
use Rattle.std.proofs.Common.{◌≡◌, ℕ, suc, ◌-◌, ◌+◌, [], ◌∷◌, ap, ◌∙◌, arith}
use Rattle.ghost_history.specs.Lists.{numbered_from}
use Rattle.wake_pool.specs.declared.phase.WakePhase.TheVariants.{Idle}
use Rattle.lanes.specs.declared.sizes.Plan.{Plan}
use Rattle.lanes.specs.Inner.Pool.{BothSat, producer_of, thread_at, AreIdle}
use Rattle.lanes.specs.Inner.Caller.{IsCaller}

-- when all are dealt out, the closer's thread is left
pub only_caller : (plan : Plan) (a b : ℕ) (m : BothSat)
    → AreIdle plan a b m
    → a ≡ plan.sizes.lanes
    → b ≡ plan.sizes.workers
    → IsCaller plan Idle m
only_caller plan a b m is all_lanes all_workers =
    let none : plan.sizes.workers - b ≡ 0 = omega (arith, all_workers) in
    let one : (plan.sizes.lanes + 1) - a ≡ suc 0 = omega (arith, all_lanes) in
    record {
      no_sleeper = is.sleepers ∙ ap (λ (n : ℕ). numbered_from (thread_at plan Idle) b n) none;
      thread = is.others ∙ ap (λ (n : ℕ). numbered_from (thread_at plan Idle) (producer_of plan a) n) one ∙ ap (λ (n : ℕ). thread_at plan Idle (producer_of plan n) ∷ []) all_lanes;
    }
