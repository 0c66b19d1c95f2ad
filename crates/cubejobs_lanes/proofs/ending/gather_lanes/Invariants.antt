use Rattle.std.proofs.Common.{◌≡◌, ◌++◌, length}
use Rattle.std.specs.List.{All}
use Rattle.cubejobs_lanes.specs.Ending.{kept_lanes, IsLaneIn}
use Rattle.cubejobs_lanes.proofs.ending.gather_lanes.Given as goal

abbrev pub invariant-loop-place : goal.invariant-loop-place
invariant-loop-place l = record {
  id : l.end.id ≡ l.lanes;
  left : All (IsLaneIn l.lanes) l.places.items;
  gone : l.end.lanes ++ kept_lanes l.places.items ≡ l.fn.end.lanes ++ kept_lanes l.fn.places.items;
  workers : l.end.workers ≡ l.fn.end.workers;
  counts : l.end.counts ≡ l.fn.end.counts;
}

abbrev pub decreases-loop-place : goal.decreases-loop-place
decreases-loop-place l = length l.places.items
