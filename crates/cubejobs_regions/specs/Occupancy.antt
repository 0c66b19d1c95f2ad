-- What an answer counts in a machine.
use Rattle.std.specs.Prelude.{◌≡◌, ℕ, if◌then◌else◌, false, Some, None, slice_index}
use Rattle.bitmap_occupancy.specs.Counted.{IsCountOf}
use Rattle.bitmap_occupancy.specs.declared.summary.Occupancy.{Occupancy}
use Rattle.bitmap_tree.specs.Handles.{id_of}
use Rattle.cubejobs_regions.specs.declared.answer.OccupancyAnswer.{OccupancyAnswer}
use Rattle.cubejobs_regions.specs.declared.handle.Handle.{Handle}
use Rattle.cubejobs_regions.specs.declared.machine.Machine.{Machine}
use Rattle.cubejobs_regions.specs.Handle.{last_table, last_trail}
use Rattle.cubejobs_regions.specs.Machine.{dim_of_machine, tree_of}

-- The occupancy in an answer.
abbrev pub occupancy_of : OccupancyAnswer → Occupancy
occupancy_of answer = record {
  free = answer.free;
  held = answer.held;
  largest = if answer.has_free then Some answer.largest else None;
}

-- The answer counts nothing: each of its fields except the code is 0.
pub record CountsNone (answer : OccupancyAnswer) : Type 0 where
  pub largest : answer.largest ≡ 0
  pub has_free : answer.has_free ≡ false
  pub held : answer.held ≡ 0
  pub free : (k : ℕ) → slice_index answer.free k ≡ 0

-- The handle keeps the seat of a count of the machine, and the answer has its counts.
pub record IsCounted (machine : Machine) (answer : OccupancyAnswer) (handle : Handle) : Type 0 where
  pub of_machine : last_table handle ≡ id_of (tree_of machine)
  pub counts : IsCountOf (dim_of_machine machine) (last_trail handle) (occupancy_of answer)
