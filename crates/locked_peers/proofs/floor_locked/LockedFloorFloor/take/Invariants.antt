use Rattle.std.proofs.Common.{◌≡◌, None}
use Rattle.locked_peers.specs.InnerFloor.Step.{IsStationSeat}
use Rattle.locked_peers.specs.InnerFloor.Handle.{floor_id, IsOf, grants_in, grants_of}
use Rattle.locked_peers.proofs.floor_locked.LockedFloorFloor.take.Given as goal

abbrev pub invariant-loop : goal.invariant-loop
invariant-loop g l =
    IsOf (floor_id l.self.lock) l.seat.table_id l.seat.me.0.about × IsStationSeat l.seat.me l.number None × (grants_in l.seat.me ≡ grants_of l.fn.station)
