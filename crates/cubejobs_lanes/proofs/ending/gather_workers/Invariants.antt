use Rattle.std.proofs.Common.{◌≡◌, ◌++◌, length}
use Rattle.std.specs.List.{All}
use Rattle.cubejobs_lanes.specs.Ending.{kept_workers, IsWorkerIn}
use Rattle.cubejobs_lanes.proofs.ending.gather_workers.Given as goal

abbrev pub invariant-loop-place : goal.invariant-loop-place
invariant-loop-place l = record {
  id : l.end.id ≡ l.lanes;
  left : All (IsWorkerIn l.lanes) l.places.items;
  gone : l.end.workers ++ kept_workers l.places.items ≡ l.fn.end.workers ++ kept_workers l.fn.places.items;
  lanes : l.end.lanes ≡ l.fn.end.lanes;
  counts : l.end.counts ≡ l.fn.end.counts;
}

abbrev pub decreases-loop-place : goal.decreases-loop-place
decreases-loop-place l = length l.places.items
