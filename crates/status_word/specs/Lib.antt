pub mod Word
pub mod Text
