pub mod Home
pub mod HomeLends
pub mod Left
