-- A ring and its handles, as contracts see them.
use Rattle.std.specs.Prelude.{ℕ, List}
use Rattle.atomic_table.specs.Seated.{TableId}
use Rattle.line_ring.specs.declared.record.LaneRecord.{LaneRecord}
use Rattle.line_ring.specs.declared.record.PassRecord.{PassRecord}

-- The identity of a ring: its table, and the machine that its pieces are for.
pub record RingId : Type 0 where
  pub table : TableId
  pub machine : ℕ

-- A ring, and the largest number of pieces that it holds at once.
pub record RingOf : Type 0 where
  pub id : RingId
  pub capacity : ℕ

-- A lane: its ring and its record.
pub record LaneOf (T : Type 0) : Type 0 where
  pub ring : RingId
  pub known : LaneRecord T

-- A pass: its ring and its record.
pub record PassOf (T : Type 0) : Type 0 where
  pub ring : RingId
  pub known : PassRecord T

-- The end of a ring: its ring, how many lanes and passes were given out, and the records of those
-- that have come back.
pub record EndOf (T : Type 0) : Type 0 where
  pub ring : RingId
  pub dealt_lanes : ℕ
  pub dealt_passes : ℕ
  pub back_lanes : List (LaneRecord T)
  pub back_passes : List (PassRecord T)
