-- A locked queue and its handles as plain data.
use Rattle.std.specs.Prelude.{◌≡◌, ℕ, [], ◌∷◌}
use Rattle.atomic_table.specs.Seated.{TableId}
use Rattle.locked_peers.specs.Handle.{table_of as table_of_cell, key_of}
use Rattle.job_queue.specs.declared.job_line.Sizes.{Sizes}
use Rattle.job_queue.specs.declared.record.LaneRecord.{LaneRecord}
use Rattle.job_queue.specs.declared.record.PassRecord.{PassRecord}
use Rattle.locked_peers.specs.declared.store_lock.StoreLock.{StoreLock}
use Rattle.locked_peers.specs.declared.line_handle.LockedLane.{LockedLane}
use Rattle.locked_peers.specs.declared.line_handle.LockedPass.{LockedPass}
use Rattle.locked_peers.specs.declared.line_handle.LockedCloser.{LockedCloser}
use Rattle.locked_peers.specs.declared.line_handle.LockedNote.{LockedNote}
use Rattle.job_queue.specs.Line.{LineId}
use Rattle.locked_peers.specs.InnerLine.Step.{lane_in, pass_in}

-- The table of a lock.
abbrev pub table_of : StoreLock → TableId
table_of lock = table_of_cell lock.cell

-- The sizes of the queue under a lock.
abbrev pub sizes_of : StoreLock → Sizes
sizes_of lock = key_of lock.cell

-- The identity of the queue under a lock.
abbrev pub line_id : StoreLock → LineId
line_id lock = record { tables = table_of lock ∷ []; sizes = sizes_of lock }

-- A handle with this table and these sizes belongs to the queue.
abbrev pub IsOf : LineId → TableId → Sizes → Type 0
IsOf id table about = (id.tables ≡ table ∷ []) × (about ≡ id.sizes)

-- The lane belongs to the queue.
abbrev pub is_lane : LineId → LockedLane → Type 0
is_lane id lane = IsOf id lane.seat.table_id lane.seat.me.0.about

-- The pass belongs to the queue.
abbrev pub is_pass : LineId → LockedPass → Type 0
is_pass id pass = IsOf id pass.seat.table_id pass.seat.me.0.about

-- The closer belongs to the queue.
abbrev pub is_closer : LineId → LockedCloser → Type 0
is_closer id closer = IsOf id closer.seat.table_id closer.seat.me.0.about

-- The close note belongs to the queue.
abbrev pub is_note : LineId → LockedNote → Type 0
is_note id note = IsOf id note.seat.table_id note.seat.me.0.about

-- The record of a lane, which its seat knows.
abbrev pub lane_record : LockedLane → LaneRecord
lane_record lane = lane_in lane.seat.me.0.lanes

-- The record of a pass, which its seat knows.
abbrev pub pass_record : LockedPass → PassRecord
pass_record pass = pass_in pass.seat.me.0.passes

-- The close number of a note.
abbrev pub note_number : LockedNote → ℕ
note_number note = note.number
