-- A `RuledLine` and its handles as plain data.
use Rattle.std.specs.Prelude.{◌≡◌, ℕ, ◌<◌, List, [], ◌∷◌, map, length, slice_set}
use Rattle.atomic_table.specs.Seated.{TableId}
use Rattle.line_gate.specs.Gate.{GateId}
use Rattle.line_ring.specs.Ring.{RingId, RingOf, EndOf}
use Rattle.line_gate.specs.declared.record.LaneEntries.{LaneEntries}
use Rattle.line_gate.specs.declared.record.PassReadings.{PassReadings}
use Rattle.line_ring.specs.declared.record.LaneRecord.{LaneRecord as RingLaneRecord}
use Rattle.line_ring.specs.declared.record.PassRecord.{PassRecord as RingPassRecord}
use Rattle.job_queue.specs.declared.job_line.Sizes.{Sizes}
use Rattle.job_queue.specs.declared.record.QueuedJob.{QueuedJob}
use Rattle.job_queue.specs.declared.record.LaneRecord.{LaneRecord}
use Rattle.job_queue.specs.declared.record.PassRecord.{PassRecord}
use Rattle.line_ruled.specs.declared.handle.RuledLane.{RuledLane}
use Rattle.line_ruled.specs.declared.handle.RuledPass.{RuledPass}
use Rattle.line_ruled.specs.declared.handle.RuledCloser.{RuledCloser}
use Rattle.line_ruled.specs.declared.handle.RuledNote.{RuledNote}
use Rattle.line_ruled.specs.declared.line.RuledLine.{RuledLine}
use Rattle.job_queue.specs.Line.{LineId}
use Rattle.line_ruled.specs.Inner.Join.{joined_lane, joined_pass}

-- The identity of the queue with this gate and this ring: their tables and sizes.
abbrev pub line_of : GateId → RingOf → LineId
line_of gate ring =
    record {
      tables = gate.table ∷ ring.id.table ∷ [];
      sizes = record {
        machine = ring.id.machine;
        lanes = gate.counts.lanes;
        passes = gate.counts.passes;
        capacity =
            ring.capacity;
      };
    }

-- The identity of a `RuledLine`.
abbrev pub line_id : RuledLine → LineId
line_id line = line_of line.gate line.ring

-- A handle with this gate table and this ring belongs to the queue.
abbrev pub IsOf : LineId → TableId → RingId → Type 0
IsOf id gate ring = (id.tables ≡ gate ∷ ring.table ∷ []) × (ring.machine ≡ id.sizes.machine)

-- The lane belongs to the queue: its parts are of that gate and that ring.
abbrev pub is_lane : LineId → RuledLane → Type 0
is_lane id lane = IsOf id lane.gate.gate lane.ring.ring × (lane.ring.known.number < id.sizes.lanes)

-- The pass belongs to the queue: its parts are of that gate and that ring.
abbrev pub is_pass : LineId → RuledPass → Type 0
is_pass id pass = IsOf id pass.gate.gate pass.ring.ring

-- All lanes and passes of the ring were given out, and none has come back.
pub record AllDealt (sizes : Sizes) (end : EndOf QueuedJob) : Type 0 where
  pub lanes : end.dealt_lanes ≡ sizes.lanes
  pub passes : end.dealt_passes ≡ sizes.passes
  pub no_lanes : end.back_lanes ≡ []
  pub no_passes : end.back_passes ≡ []

-- The closer belongs to the queue, whose lanes and passes were all given out.
abbrev pub is_closer : LineId → RuledCloser → Type 0
is_closer id closer = IsOf id closer.gate.gate closer.ring.ring × AllDealt id.sizes closer.ring

-- The close note belongs to the queue, whose lanes and passes were all given out.
abbrev pub is_note : LineId → RuledNote → Type 0
is_note id note = IsOf id note.gate.gate note.ring.ring × AllDealt id.sizes note.ring

-- The record of a lane: its records at the gate and in the ring, joined.
abbrev pub lane_record : RuledLane → LaneRecord
lane_record lane = joined_lane lane.gate.known lane.ring.known

-- The record of a pass: its records at the gate and in the ring, joined.
abbrev pub pass_record : RuledPass → PassRecord
pass_record pass = joined_pass pass.gate.known pass.ring.known

-- The close number of a note, which is the gate's.
abbrev pub note_number : RuledNote → ℕ
note_number note = note.gate.number

-- The records of lanes at the gate.
abbrev pub gate_lanes : List RuledLane → List LaneEntries
gate_lanes lanes = map (λ (l : RuledLane). l.gate.known) lanes

-- The records of lanes in the ring.
abbrev pub ring_lanes : List RuledLane → List (RingLaneRecord QueuedJob)
ring_lanes lanes = map (λ (l : RuledLane). l.ring.known) lanes

-- The records of passes at the gate.
abbrev pub gate_passes : List RuledPass → List PassReadings
gate_passes passes = map (λ (p : RuledPass). p.gate.known) passes

-- The records of passes in the ring.
abbrev pub ring_passes : List RuledPass → List (RingPassRecord QueuedJob)
ring_passes passes = map (λ (p : RuledPass). p.ring.known) passes

-- The counts after each of these lanes has stored its number of accepted jobs at its place.
abbrev pub counts_after : List ℕ → List RuledLane → List ℕ
counts_after counts [] = counts
counts_after counts (l ∷ lanes) = let r = l.ring.known in counts_after (slice_set counts r.number (length r.accepted)) lanes
