-- Many threads may use a `TreeFloor` at once.
use denote.Param.Send.{IsSync, sendable}
use Rattle.cube_tree.proofs.SharedLemmas.{cube_field_sync}
use Rattle.floor_tree.specs.contracts.floor_tree.TreeFloor as floor

pub tree_floor_field_sync : IsSync (floor.the_field).row
tree_floor_field_sync = search (sendable, cube_field_sync) depth 20

pub tree_floor_sync : IsSync floor.the_row
tree_floor_sync = search (sendable, tree_floor_field_sync) depth 20
