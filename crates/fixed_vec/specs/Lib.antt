pub mod Fixed
pub mod Inner
pub mod Lends
pub mod Spending
pub mod Words
