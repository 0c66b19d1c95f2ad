-- A `TreeFloor` and its handles as plain data. A user of an allocator does not need these.
use Rattle.std.specs.Prelude.{◌≡◌, ◌<◌, [], ◌∷◌}
use Rattle.std.specs.List.{All}
use Rattle.cube_shape.specs.Region.{IsAligned}
use Rattle.floors.specs.Floor.{FloorId}
use Rattle.tree_steps.specs.Tree.{id_of}
use Rattle.cube_tree.specs.declared.handles.Cube.{Cube}
use Rattle.cube_tree.specs.declared.handles.TreeStation.{TreeStation}
use Rattle.cube_tree.specs.declared.handles.Subcube.{Subcube}
use Rattle.cube_tree.specs.Handles.{cube_dim, cube_size, station_entry, subcube_entry}
use Rattle.floor_tree.specs.Grants.{station_grants, subcube_grants}

-- The identity of the allocator: the table, the dimension and the number of stations of its cube.
abbrev pub floor_id : Cube → FloorId
floor_id cube =
    record {
      tables = id_of cube.tree ∷ [];
      dim = cube_dim cube;
      stations =
          (cube_size cube).stations;
    }

-- A station of this allocator. It steps on the allocator's table, its number is below the count,
-- and each block that it was given is aligned.
pub record IsStation (id : FloorId) (station : TreeStation) : Type 0 where
  pub table : id.tables ≡ station.seat.table_id ∷ []
  pub below : (station_entry station).station < id.stations
  pub granted : All (IsAligned id.dim) (station_grants station)

-- A held block of this allocator, which says the same of its station.
pub record IsHeld (id : FloorId) (subcube : Subcube) : Type 0 where
  pub table : id.tables ≡ subcube.seat.table_id ∷ []
  pub below : (subcube_entry subcube).station < id.stations
  pub granted : All (IsAligned id.dim) (subcube_grants subcube)
