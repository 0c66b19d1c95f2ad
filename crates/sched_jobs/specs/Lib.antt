pub mod Slots
pub mod Select
pub mod Sums
pub mod Shows
pub mod Lines
pub mod Counts
pub mod Inner
pub mod Nodes
pub mod Lists
pub mod Queues
pub mod InnerQueue
pub use Rattle.sched_law.specs.State.{Sched, cancel, end_after, finish, initial, pass, start, submit}
pub use Rattle.alloc_bits.specs.Count.{IsCount}
pub use Rattle.fixed_vec.specs.Spending.{HasWords, Spends}
