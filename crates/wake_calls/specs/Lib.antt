pub mod Pool
pub mod Thread
pub mod Inner
pub use Rattle.wake_pool.specs.Schedule.{looking, resting, waking}
pub use Rattle.wake_pool.specs.Words.{base, bit_of, word_count, word_of}
