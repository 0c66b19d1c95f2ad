-- What holds of every dispatcher and of each of its workers.
use Rattle.std.specs.Prelude.{◌≡◌, ℕ, ◌<◌, List, map}
use Rattle.std.specs.List.{All}
use Rattle.cube_shape.specs.declared.region.Region.{Region}
use Rattle.job_types.specs.Reply.{ReplyData}
use Rattle.job_queue.specs.declared.record.QueuedJob.{QueuedJob}
use Rattle.job_queue.specs.Line.{LineId}
use Rattle.floors.specs.Floor.{FloorId}
use Rattle.dispatcher.specs.Shop.{ShopId}
use Rattle.dispatcher.specs.Reply.{answered, region_of, IsRight}

-- The queue's jobs are for the allocator's machine, and there is a station for each pass.
pub record IsOneMachine (line : LineId) (floor : FloorId) : Type 0 where
  pub machine : line.sizes.machine ≡ floor.dim
  pub stations : line.sizes.passes ≡ floor.stations
  pub some : 0 < floor.stations

-- The dispatcher that this queue and this allocator make.
abbrev pub shop_of : LineId → FloorId → ShopId
shop_of line floor = record { line = line; floor = floor }

-- The replies are right. They answer the jobs that a worker took, in order, on the blocks that it
-- was granted.
pub record HasServed (n : ℕ) (taken : List QueuedJob) (grants : List Region)
    (replies : List ReplyData) : Type 0 where
  pub answers : taken ≡ map answered replies
  pub regions : grants ≡ map region_of replies
  pub right : All (IsRight n) replies
