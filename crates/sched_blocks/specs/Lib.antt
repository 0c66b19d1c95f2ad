pub mod Layout
pub mod Shows
pub mod Inner
pub mod Ends
pub mod Busy
pub mod Use
pub use Rattle.cube_shape.specs.Region.{IsAligned, block}
pub use Rattle.cube_shape.specs.Machine.{IsFree}
pub use Rattle.cube_shape.specs.Node.{IsInCube, IsNodeOf, OnPath}
pub use Rattle.cube_shape.specs.Falling.{IsHeld}
pub use Rattle.alloc_bits.specs.Count.{IsCount}
pub use Rattle.fit_tree.specs.Rooms
pub use Rattle.fit_tree.specs.Fit.{held_in}
pub use Rattle.fit_tree.specs.Image.{fit_in}
pub use Rattle.fit_tree.specs.Halves.{lower_half, upper_half}
pub use Rattle.sched_law.specs.State.{Sched, IsVacant, Runs, Waits, end_after, held, set}
pub use Rattle.sched_law.specs.State.{at, cancel, finish, initial, occupy, pass, reserve, start}
pub use Rattle.sched_law.specs.State.{submit, vacate}
pub use Rattle.sched_law.specs.Policy.{Chooses, HasNone, HasUsable, IsFirst, IsHead, IsLatest, IsVacantBeside}
pub use Rattle.sched_law.specs.Policy.{IsBetter, IsBusyCount, Prepares}
pub use Rattle.sched_law.specs.Law.{IsSafe, IsSound}
pub use Rattle.fixed_vec.specs.Spending.{HasWords, Spends}
