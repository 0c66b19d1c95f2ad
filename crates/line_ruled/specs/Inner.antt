-- Definitions that only private contracts and proofs of `line_ruled` use.
pub mod Join
pub mod Handle
