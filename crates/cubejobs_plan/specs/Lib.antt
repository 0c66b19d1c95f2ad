pub mod Answers
pub mod Blocks
pub mod CoreIn
pub mod Counts
pub mod Handle
pub mod InnerLending
pub mod InnerOpaquePtr
pub mod Jobs
pub mod Looks
pub mod Options
pub mod Sizes
pub use Rattle.sched_core.specs.Shows.{ShowsCore, dim_of, time_of}
pub use Rattle.sched_law.specs.State.{Sched}
pub use Rattle.sched_core.specs.Request.{IsAskable}
