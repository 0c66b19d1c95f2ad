pub mod Counted
pub mod InnerCount
pub mod InnerLargest
pub mod InnerPass
pub mod InnerRuns
pub mod Occupancy
pub mod Summary
pub use Rattle.bitmap_tree.specs.Handles.{dim_of, id_of}
pub use Rattle.bitmap_tree.specs.Rule.{word_count}
