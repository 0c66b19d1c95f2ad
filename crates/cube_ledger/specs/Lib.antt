pub mod Ledger
pub mod Inner
pub mod Occupancy
pub mod InnerOccupancy
pub use Rattle.ghost_history.specs.Sums.{below}
