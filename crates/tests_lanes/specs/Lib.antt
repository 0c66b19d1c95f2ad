pub mod Board
pub mod Inner
pub use Rattle.wake_calls.specs.Thread.{IsIn, moved}
pub use Rattle.wake_pool.specs.Law.{IsServed}
pub use Rattle.wake_pool.specs.Schedule.{looking, resting, waking}
pub use Rattle.wake_pool.specs.Words.{word_count, world_of}
