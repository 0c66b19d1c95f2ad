use Rattle.bitmap_occupancy.specs.InnerLargest.{IsLargestBelow}
use Rattle.bitmap_occupancy.proofs.totals.largest_free.Given as goal

abbrev pub invariant-loop-dim : goal.invariant-loop-dim
invariant-loop-dim l = IsLargestBelow l.dim l.free l.largest
