use Rattle.std.proofs.Common.{◌≡◌}
use Rattle.floor_tree.specs.Grants.{station_grants}
use Rattle.floor_tree.specs.Inner.Handle.{floor_id, IsStation}
use Rattle.floor_tree.proofs.floor_tree.TreeFloorFloor.take.Given as goal

abbrev pub invariant-loop : goal.invariant-loop
invariant-loop g l = IsStation (floor_id l.self.cube) l.station × (station_grants l.station ≡ station_grants l.fn.station)
