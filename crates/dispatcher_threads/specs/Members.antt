-- The dispatcher that a run was, by its own members.
use Rattle.std.specs.Prelude.{◌≡◌, ℕ, List, map, length}
use Rattle.std.specs.List.{All}
use Rattle.job_queue.specs.declared.job_line.JobLine.{Ghosts as LineWords}
use Rattle.floors.specs.declared.floor.Floor.{Ghosts as FloorWords}
use Rattle.dispatcher.specs.declared.opening.ShopSizes.{ShopSizes}
use Rattle.dispatcher.specs.declared.worker.WorkerEnd.{WorkerEnd}
use Rattle.dispatcher.specs.Shop.{ShopId, HasSizes}
use Rattle.dispatcher.specs.Members.{IsEndOf, replies_of, stop_of}
use Rattle.dispatcher.specs.Finished.{outcome, FinishedRun}
use Rattle.dispatcher_threads.specs.declared.running.RunEnd.{RunEnd}
use Rattle.dispatcher_threads.specs.Run.{by_worker_of}

module _ {L Lane Pass Closer Note End F Station Held Machine : Type 0}
    (line : LineWords L Lane Pass Closer Note End) (floor : FloorWords F Station Held Machine) where
  -- The run was that of a dispatcher of these sizes. The values of the run are those of that
  -- dispatcher's own lanes, stopped workers, stations and close note, one by one. Only the calls of
  -- a queue and of an allocator make such members. So each reply was made on a block that the
  -- allocator granted. The last station was granted the blocks of the rest too.
  pub record RanIn (asked : ShopSizes) (lane_count : ℕ) (end : RunEnd Machine) : Type 0 where
    pub shop : ShopId
    pub sizes : HasSizes asked.dim lane_count asked.dispatchers asked.capacity shop
    pub lanes : List Lane
    pub own_lanes : All (line.is_lane shop.line) lanes
    pub numbers : map (λ l. l.lane) end.lanes.items ≡ map (λ l. (line.lane_record l).number) lanes
    pub entries : map (λ l. l.entries) end.lanes.items
        ≡ map (λ l. length (line.lane_record l).entries) lanes
    pub workers : List (WorkerEnd L F Lane Pass Closer Note End Station Held Machine line floor)
    pub own_workers : All (IsEndOf shop) workers
    pub replies : by_worker_of end ≡ map replies_of workers
    pub stops : end.stops.items ≡ map stop_of workers
    pub note : Note
    pub own_note : line.is_note shop.line note
    pub close_number : end.close_number ≡ line.note_number note
    pub stations : List Station
    pub own_stations : All (floor.is_station shop.floor) stations
    -- The theorem of the finished dispatcher.
    pub finished : FinishedRun asked.dim (map line.lane_record lanes) (map floor.grants stations)
        (line.note_number note) (outcome floor.machine_words end.finished)
