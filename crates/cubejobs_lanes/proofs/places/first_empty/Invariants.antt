use Rattle.cubejobs_lanes.specs.Places.{AreFullBelow}
use Rattle.cubejobs_lanes.proofs.places.first_empty.Given as goal

abbrev pub invariant-loop-place : goal.invariant-loop-place
invariant-loop-place g l = AreFullBelow l.place l.places.items
