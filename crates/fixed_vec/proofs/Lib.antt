pub mod Words
pub mod Values
pub mod Lodges
pub mod Spending
