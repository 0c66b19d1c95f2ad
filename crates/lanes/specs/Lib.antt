pub mod Layout
pub mod Record
pub mod History
pub mod Lanes
pub mod Run
pub mod Phases
pub mod Deeds
pub mod Sleep
pub mod Inner
pub use Rattle.wake_pool.specs.Law.{IsServed}
pub use Rattle.wake_pool.specs.Schedule.{looking, resting, waking}
pub use Rattle.wake_pool.specs.Words.{word_count, world_of}
