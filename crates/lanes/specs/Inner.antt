-- Definitions that only private contracts and proofs use.
pub mod View
pub mod Rule
pub mod Step
pub mod Rest
pub mod Round
pub mod Pool
pub mod PoolLaw
pub mod Find
pub mod Caller
pub mod Sleeper
