-- The blocks that rooms of any bytes name as taken.
use Rattle.std.specs.Prelude.{◌≡◌, ◌≢◌, ℕ, List}
use Rattle.cube_shape.specs.declared.region.Region.{Region}
use Rattle.cube_shape.specs.Node.{IsNodeOf, OnPath}
use Rattle.fit_tree.specs.Rooms.{room_of}

-- The room of the block is 0, and no room of a block that contains it is.
abbrev pub IsTopmost : ℕ → List ℕ → Region → Type 0
IsTopmost n rooms r =
    (v : ℕ) × IsNodeOf n v r × (room_of rooms v ≡ 0)
    × ((u : ℕ) → OnPath u v → u ≢ v → room_of rooms u ≢ 0)
