use Rattle.std.proofs.Common.{◌≡◌, ◌*◌, ◌^◌, ◌≤◌, take}
use Rattle.cube_shape.specs.declared.limits.TheConstants.{MAX_DIM}
use Rattle.cube_ledger.specs.Ledger.{is_of_lane, totals_of}
use Rattle.cube_ledger.proofs.ledger.sum.Given as goal

-- The totals are those of the slips so far.
abbrev pub invariant-loop-slip : goal.invariant-loop-slip
invariant-loop-slip l = record {
  totals : l.totals ≡ totals_of (is_of_lane l.lane) (take l.slip-index l.slips);
  few : l.totals.jobs ≤ l.slip-index;
  small : l.totals.processors ≤ l.slip-index * 2 ^ MAX_DIM;
  small_idle : l.totals.idle ≤ l.slip-index * 2 ^ 64;
}
