-- Which dispatcher it is, and how much room its end has.
use Rattle.std.specs.Prelude.{◌≡◌, ℕ}
use Rattle.job_queue.specs.Line.{LineId}
use Rattle.floors.specs.Floor.{FloorId}

-- The identity of a dispatcher: its queue and its allocator.
pub record ShopId : Type 0 where
  pub line : LineId
  pub floor : FloorId

-- The dispatcher has these sizes: the dimension, the numbers of lanes and workers, and the capacity
-- of its queue.
pub record HasSizes (n lanes dispatchers capacity : ℕ) (shop : ShopId) : Type 0 where
  pub dim : shop.floor.dim ≡ n
  pub machine : shop.line.sizes.machine ≡ n
  pub lanes_are : shop.line.sizes.lanes ≡ lanes
  pub workers : shop.line.sizes.passes ≡ dispatchers
  pub holds : shop.line.sizes.capacity ≡ capacity

-- How many workers, and how many jobs that are left, the end of a dispatcher has room for.
pub record RoomSize : Type 0 where
  pub workers : ℕ
  pub jobs : ℕ

-- Room for all workers and for a full queue.
abbrev pub room_for : ShopId → RoomSize
room_for shop = record { workers = shop.line.sizes.passes; jobs = shop.line.sizes.capacity }
