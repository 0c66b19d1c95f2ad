use Rattle.std.proofs.Common.{◌≡◌, ◌≤◌, length}
use Rattle.std.specs.Vec.{vec_capacity}
use Rattle.cubejobs_lanes.specs.Kept.{HasFreshLanes}
use Rattle.cubejobs_lanes.proofs.opening.deal_lanes.Given as goal

abbrev pub invariant-loop : goal.invariant-loop
invariant-loop l = record {
  id : l.members.id ≡ l.lanes;
  dealt : l.members.dealt_lanes ≡ l.counter;
  workers : l.members.dealt_workers ≡ l.fn.members.dealt_workers;
  count : length l.places.items ≡ l.counter;
  room : l.count ≤ vec_capacity l.places;
  fresh : HasFreshLanes l.lanes l.counter l.places.items;
}
