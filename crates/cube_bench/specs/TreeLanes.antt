-- What contracts say of the lanes of a tree.
use Rattle.std.specs.Prelude.{IsSomeAnd}
use Rattle.cube_tree.specs.declared.handles.Cube.{Cube}
use Rattle.cube_tree.specs.Handles.{IsStationOf}
use Rattle.cube_bench.specs.declared.tree.lanes.Lane.{Lane}

-- The lane has a station of this tree.
abbrev pub HasStation : Cube → Lane → Type 0
HasStation cube lane = IsSomeAnd lane.station (λ station. IsStationOf cube station)
