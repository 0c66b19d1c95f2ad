pub mod Cell
pub mod Handle
pub mod InnerLine
pub mod InnerFloor
pub use Rattle.ghost_history.specs.Sums.{times}
pub use Rattle.job_queue.specs.Line.{IsMadeFor}
pub use Rattle.job_queue.specs.Record.{accepted, fresh_lanes, fresh_passes}
pub use Rattle.job_queue.specs.Run.{WholeRun}
pub use Rattle.cube_shape.specs.Region.{AreApart, IsAligned}
pub use Rattle.alloc_bits.specs.Allocation.{held_in}
pub use Rattle.floors.specs.Floor.{IsWhollyFree}
