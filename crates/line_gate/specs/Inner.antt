-- Definitions that only private contracts and proofs use.
pub mod View
pub mod Deed
pub mod Rule
pub mod Step
