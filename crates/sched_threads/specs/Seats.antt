-- What contracts see of a seat.
use Rattle.atomic_table.specs.Seated.{TableId}
use Rattle.sched_threads.specs.Step.{Sat}

-- The table at which it is, and what it knows.
pub record SeatOf : Type 0 where
  pub table_id : TableId
  pub me : Sat
