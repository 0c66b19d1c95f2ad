use Rattle.std.proofs.Common.{◌≡◌, ◌≤◌, length}
use Rattle.std.specs.Vec.{vec_capacity}
use Rattle.cubejobs_lanes.specs.KeptReturns.{AreNamed}
use Rattle.cubejobs_lanes.proofs.returns.named_places.Given as goal

abbrev pub invariant-loop-number : goal.invariant-loop-number
invariant-loop-number g l = record {
  lanes : l.name.lanes.value ≡ l.lanes;
  count : length l.places.items ≡ l.number;
  room : l.count ≤ vec_capacity l.places;
  named : AreNamed l.lanes l.number l.places.items;
}
