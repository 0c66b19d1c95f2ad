use Rattle.wake_pool.specs.Words.{world_of}
use Rattle.wake_pool.proofs.ServedLemmas.{IsSound-served}
use Rattle.tests_lanes.specs.Inner.Rule.{jobs_in}
use Rattle.tests_lanes.proofs.board.every_board_is_served.Goals as goal

pub returns : goal.returns
returns c =
    λ sizes s kept. IsSound-served (world_of sizes.workers sizes.lanes s.words (jobs_in sizes s.words) kept.phases) kept.sound
