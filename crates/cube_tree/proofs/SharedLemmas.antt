-- Many threads may use a cube at once.
use denote.RattleType.{RattleType}
use denote.Param.Send.{IsSend, IsSync, sendable, part_keyless}
use denote.Builtin.{unit}
use Rattle.atomic_table.proofs.shared.Seat.TheSendSync.{the_send as send}
use Rattle.tree_steps.specs.contracts.view.View as view
use Rattle.atomic_table.specs.contracts.shared.Seat as seat
use Rattle.tree_steps.proofs.tree.Tree.TheSendSync as tree_sync
use Rattle.cube_tree.specs.contracts.handles.Cube as cube

-- a seat that is only looked at
seat_sync : (S V : RattleType) → IsSend S → IsSync (seat.the_row S V)
seat_sync S V s = record { shared = λ d b o ν q. part_keyless (seat.the_row S V) (send S V s) q d b o }

own_seat_sync : IsSync (seat.the_row unit view.the_row)
own_seat_sync = seat_sync unit view.the_row (search sendable)

pub cube_field_sync : IsSync (cube.the_field).row
cube_field_sync = search (sendable, tree_sync.the_field_sync, own_seat_sync) depth 20

pub cube_sync : IsSync cube.the_row
cube_sync = search (sendable, cube_field_sync) depth 20
