pub mod Record
pub mod Line
pub mod History
pub mod Run
pub use Rattle.ghost_history.specs.Sums.{times}
