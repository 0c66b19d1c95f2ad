pub mod Woken
pub mod JobBoard
pub mod Served
pub mod Workers
pub mod Pool
pub use Rattle.cube_shape.specs.Region.{IsAligned}
pub use Rattle.sched_law.specs.State.{Sched, IsVacant, at, cancel, finish, initial, occupy, submit, vacate}
pub use Rattle.sched_law.specs.Policy.{Decides}
pub use Rattle.sched_law.specs.Law.{IsSound}
pub use Rattle.sched_law.specs.Team.{Deed}
pub use Rattle.fixed_vec.specs.Spending.{HasWords, Spends}
pub use Rattle.sched_core.specs.Shows.{HasSameJobs, IsSpent, IsTaken, KeepsGenerations, KeepsOthers, KeepsSlots}
pub use Rattle.sched_core.specs.Shows.{ShowsCore, dim_of, job_arrival, job_generation, job_place, slots_of, submitted_of}
pub use Rattle.sched_core.specs.Answers.{answer_of}
