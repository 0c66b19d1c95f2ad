use Rattle.wake_pool.specs.Words.{world_of}
use Rattle.wake_pool.proofs.ServedLemmas.{IsSound-served}
use Rattle.lanes.specs.Inner.Pool.{jobs_in}
use Rattle.lanes.proofs.sleeping.all_lanes_are_served.Goals as goal

pub returns : goal.returns
returns c =
    λ plan s kept. IsSound-served (world_of plan.sleepers plan.sizes.lanes s.words (jobs_in plan s.words) kept.phases) kept.sound
