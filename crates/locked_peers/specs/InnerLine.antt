-- Definitions that only private contracts and proofs of `line_locked` use.
pub mod View
pub mod Deed
pub mod Rule
pub mod Step
pub mod End
pub mod Handle
