-- A gate and its handles, as contracts see them.
use Rattle.std.specs.Prelude.{ℕ, List}
use Rattle.atomic_table.specs.Seated.{TableId}
use Rattle.line_gate.specs.declared.gate.Counts.{Counts}
use Rattle.line_gate.specs.declared.record.LaneEntries.{LaneEntries}
use Rattle.line_gate.specs.declared.record.PassReadings.{PassReadings}

-- The identity of a gate: the table of its words, and how many lanes and passes it has.
pub record GateId : Type 0 where
  pub table : TableId
  pub counts : Counts

-- The members of a new gate: its table, and the records of the lanes and passes not given out yet.
pub record MembersOf : Type 0 where
  pub gate : TableId
  pub lanes : List LaneEntries
  pub passes : List PassReadings

-- A lane: the table of its gate, and its record.
pub record LaneOf : Type 0 where
  pub gate : TableId
  pub known : LaneEntries

-- A pass: the table of its gate, and its record.
pub record PassOf : Type 0 where
  pub gate : TableId
  pub known : PassReadings

-- A closer: the table of its gate.
pub record CloserOf : Type 0 where
  pub gate : TableId

-- A close note: the table of its gate, and the close number.
pub record NoteOf : Type 0 where
  pub gate : TableId
  pub number : ℕ

-- The end of a gate: its table, the records of the lanes and passes taken back, the close number.
pub record EndOf : Type 0 where
  pub gate : TableId
  pub lanes : List LaneEntries
  pub passes : List PassReadings
  pub number : ℕ
