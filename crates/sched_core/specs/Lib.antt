pub mod Shows
pub mod Answers
pub mod Inner
pub mod Request
pub use Rattle.cube_shape.specs.Region.{IsAligned}
pub use Rattle.cube_shape.specs.Falling.{IsHeld}
pub use Rattle.alloc_bits.specs.Count.{IsCount}
pub use Rattle.sched_law.specs.State.{Sched, IsVacant, Runs, Waits, end_after, held, set}
pub use Rattle.sched_law.specs.State.{at, cancel, finish, initial, occupy, pass, reserve, start}
pub use Rattle.sched_law.specs.State.{submit, vacate}
pub use Rattle.sched_law.specs.Policy.{Decides, HasNone, IsHead, IsLatest, Prepares}
pub use Rattle.sched_law.specs.Law.{IsSound}
pub use Rattle.sched_jobs.specs.Counts.{DoesRun, DoesWait, WaitsBefore}
pub use Rattle.sched_jobs.specs.Sums.{asked}
pub use Rattle.fixed_vec.specs.Spending.{HasWords, Spends}
