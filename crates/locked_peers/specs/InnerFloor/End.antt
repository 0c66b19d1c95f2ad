-- A seat of a locked allocator's table that has the records of all stations.
use Rattle.std.specs.Prelude.{◌≡◌, None, [], length}
use Rattle.std.specs.List.{AllByRecursion as Each}
use Rattle.locked_peers.specs.declared.floor_view.Size.{Size}
use Rattle.locked_peers.specs.InnerFloor.Step.{Sat}

-- The seat has the records of all stations, and none of these holds a block.
pub record IsWhole (size : Size) (m : Sat) : Type 0 where
  pub slots : m.1 ≡ []
  pub stations : length m.0.stations ≡ size.stations
  pub found : m.0.found ≡ None
  pub idle : Each (λ r. r.holds ≡ None) m.0.stations
