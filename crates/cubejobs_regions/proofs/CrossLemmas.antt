-- The content of a handle may go to another thread.
use denote.Param.Send.{IsSend, IsSync, sendable, struct_sync}
use denote.Builtin.{u64}
use denote.Struct.Declared.{shape}
use Rattle.std.proofs.Crossing.{crosses}
use Rattle.bitmap_tree.specs.contracts.handles.BitmapTree as tree
use Rattle.bitmap_tree.proofs.handles.BitmapTree.TheSendSync as tree_sent
use Rattle.cubejobs_regions.specs.contracts.common.Common as common
use Rattle.cubejobs_regions.specs.contracts.state.State as content

tree_sync : IsSync tree.the_row
tree_sync = search (sendable, tree_sent.the_field_sync) depth 30

number_sync : IsSync u64
number_sync = search sendable

common_field_sync : IsSync (common.the_field).row
common_field_sync = struct_sync (shape common.the_type) (tree_sent.the_field_sync, (number_sync, tt))

common_field_send : IsSend (common.the_field).row
common_field_send = search (sendable, tree_sent.the_field_send) depth 30

common_sync : IsSync common.the_row
common_sync = search (sendable, common_field_sync) depth 30

common_send : IsSend common.the_row
common_send = search (sendable, common_field_send) depth 30

pub content_send : IsSend content.the_row
content_send = search (sendable, crosses, common_field_send, common_send, common_sync) depth 60
