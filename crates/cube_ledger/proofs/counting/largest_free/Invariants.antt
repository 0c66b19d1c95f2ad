use Rattle.cube_ledger.specs.InnerOccupancy.Largest.{IsLargestBelow}
use Rattle.cube_ledger.proofs.counting.largest_free.Given as goal

abbrev pub invariant-loop-dim : goal.invariant-loop-dim
invariant-loop-dim l = IsLargestBelow l.dim l.free l.largest
