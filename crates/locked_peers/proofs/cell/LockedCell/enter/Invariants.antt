use Rattle.std.proofs.Common.{◌≡◌}
use Rattle.locked_peers.specs.Handle.{table_of}
use Rattle.locked_peers.proofs.cell.LockedCell.enter.Given as goal

abbrev pub invariant-loop : goal.invariant-loop
invariant-loop g l = (l.seat.table_id ≡ table_of l.self) × (l.seat.id ≡ l.fn.seat.id) × (l.seat.me ≡ l.fn.seat.me)
