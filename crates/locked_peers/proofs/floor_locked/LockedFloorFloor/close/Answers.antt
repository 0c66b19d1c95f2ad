use Rattle.locked_peers.proofs.floor_locked.LockedFloorFloor.close.Goals as goal

pub gather_stations-seat-requires-clause-stations : goal.gather_stations-seat-requires-clause-stations
gather_stations-seat-requires-clause-stations c = λ i d below. (c.requires.of_floor i d below).0

pub returns-clause-granted : goal.returns-clause-granted
returns-clause-granted c = λ i d below. (c.requires.of_floor i d below).1
