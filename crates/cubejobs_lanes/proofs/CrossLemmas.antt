-- The content of a handle may go to another thread.
use denote.RattleType.{RattleType}
use denote.Param.Send.{IsSend, IsSync, sendable, part_keyless}
use Rattle.std.proofs.Crossing.{crosses}
use Rattle.atomic_table.proofs.shared.Seat.TheSendSync as seat_sent
use Rattle.atomic_table.specs.contracts.shared.Seat as seat
use Rattle.counted_slot.proofs.Counted.TheSendSync as counted
use Rattle.cubejobs_lanes.specs.contracts.kept.KeptLane as kept_lane
use Rattle.cubejobs_lanes.specs.contracts.kept.KeptWorker as kept_worker
use Rattle.lanes.specs.contracts.handles.Lane as lane
use Rattle.lanes.specs.contracts.handles.Worker as worker
use Rattle.lanes.specs.contracts.lanes.Lanes as lanes
use Rattle.lanes.specs.contracts.sleeping.Sleeper as sleeper
use Rattle.lanes.specs.contracts.sizes.Sizes as sizes
use Rattle.lanes.proofs.finder.Finder.TheSendSync as finder_sent
use Rattle.lanes.proofs.handles.Lane.TheSendSync as lane_sent
use Rattle.lanes.proofs.handles.Worker.TheSendSync as worker_sent
use Rattle.lanes.proofs.handles.Members.TheSendSync as members_sent
use Rattle.lanes.proofs.handles.Note.TheSendSync as note_sent
use Rattle.lanes.proofs.lanes.Lanes.TheSendSync as lanes_sent
use Rattle.cubejobs_lanes.specs.contracts.common.Common as common
use Rattle.cubejobs_lanes.specs.contracts.owner.Owner as owner
use Rattle.cubejobs_lanes.specs.contracts.sides.LaneSide as lane_side
use Rattle.cubejobs_lanes.specs.contracts.sides.WorkerSide as worker_side
use Rattle.cubejobs_lanes.specs.contracts.sleeper_side.SleeperSide as sleeper_side
use Rattle.cubejobs_lanes.specs.contracts.state.State as content

lanes_sync : IsSync lanes.the_row
lanes_sync = lanes_sent.the_sync

sizes_sync : IsSync (sizes.the_field).row
sizes_sync = search sendable depth 30

-- a seat that is only looked at
seat_sync : (S V : RattleType) → IsSend S → IsSync (seat.the_row S V)
seat_sync S V s = record { shared = λ d b o ν q. part_keyless (seat.the_row S V) (seat_sent.the_send S V s) q d b o }

lane_field_sync : IsSync (lane.the_field).row
lane_field_sync = search (sendable, seat_sync) depth 30

lane_sync : IsSync lane.the_row
lane_sync = search (sendable, lane_field_sync) depth 30

sleeper_field_sync : IsSync (sleeper.the_field).row
sleeper_field_sync = search (sendable, crosses, seat_sync) depth 30

sleeper_sync : IsSync sleeper.the_row
sleeper_sync = search (sendable, sleeper_field_sync) depth 30

worker_field_sync : IsSync (worker.the_field).row
worker_field_sync = search (sendable, sleeper_sync) depth 30

worker_sync : IsSync worker.the_row
worker_sync = search (sendable, worker_field_sync) depth 30

kept_lane_send : IsSend (kept_lane.the_field).row
kept_lane_send = search (sendable, lane_sent.the_send) depth 30

kept_lane_sync : IsSync (kept_lane.the_field).row
kept_lane_sync = search (sendable, lane_sync) depth 30

kept_worker_send : IsSend (kept_worker.the_field).row
kept_worker_send = search (sendable, worker_sent.the_send) depth 30

kept_worker_sync : IsSync (kept_worker.the_field).row
kept_worker_sync = search (sendable, worker_sync) depth 30

common_field_sync : IsSync (common.the_field).row
common_field_sync = search (sendable, crosses, lanes_sync, sizes_sync, counted.the_sync, kept_lane_send, kept_lane_sync, kept_worker_send, kept_worker_sync) depth 40

common_sync : IsSync common.the_row
common_sync = search (sendable, common_field_sync) depth 30

common_field_send : IsSend (common.the_field).row
common_field_send = search (sendable, crosses, lanes_sent.the_send, counted.the_send, kept_lane_send, kept_worker_send) depth 40

common_send : IsSend common.the_row
common_send = search (sendable, common_field_send) depth 30

lane_side_send : IsSend (lane_side.the_field).row
lane_side_send = search (sendable, crosses, lane_sent.the_send, common_send, common_sync) depth 60

worker_side_send : IsSend (worker_side.the_field).row
worker_side_send = search (sendable, crosses, worker_sent.the_send, common_send, common_sync) depth 60

sleeper_side_send : IsSend (sleeper_side.the_field).row
sleeper_side_send = search (sendable, crosses, finder_sent.the_send, common_send, common_sync) depth 60

owner_send : IsSend (owner.the_field).row
owner_send = search (sendable, crosses, common_send, common_sync, lane_sent.the_send, worker_sent.the_send, note_sent.the_send, members_sent.the_send) depth 60

pub content_send : IsSend content.the_row
content_send = search (sendable, crosses, owner_send, lane_side_send, worker_side_send, sleeper_side_send) depth 60
