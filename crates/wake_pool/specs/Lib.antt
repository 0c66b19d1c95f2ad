pub mod Schedule
pub mod Words
pub mod Law
pub mod Inner
