use Rattle.cubejobs_lanes.specs.Places.{AreEmptyBelow}
use Rattle.cubejobs_lanes.proofs.places.first_full.Given as goal

abbrev pub invariant-loop-place : goal.invariant-loop-place
invariant-loop-place g l = AreEmptyBelow l.place l.places.items
