-- Definitions that only private contracts and proofs use.
pub mod Rule
pub mod Steps
pub mod Law
