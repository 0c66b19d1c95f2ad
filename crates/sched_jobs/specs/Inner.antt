pub mod Put
pub mod Search
pub mod Numbers
pub mod Joins
