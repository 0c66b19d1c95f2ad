pub mod Record
pub mod Gate
pub mod History
pub mod Run
pub mod Inner
