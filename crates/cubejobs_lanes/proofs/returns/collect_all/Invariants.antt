use Rattle.cubejobs_lanes.specs.KeptReturns.{HaveComeBack}
use Rattle.cubejobs_lanes.proofs.returns.collect_all.Given as goal

abbrev pub invariant-loop-place : goal.invariant-loop-place
invariant-loop-place g l = HaveComeBack g.X.Fits.fits l.from.items l.fn.places.items l.places.items
