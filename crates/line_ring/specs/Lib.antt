pub mod Record
pub mod Ring
pub mod History
pub mod Run
pub mod Inner
pub use Rattle.ghost_history.specs.Sums.{is_at, total}
