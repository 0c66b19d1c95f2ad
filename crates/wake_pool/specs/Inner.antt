-- Definitions that only proofs, and the rule of a table of such words, use.
pub mod Bits
pub mod Invariant
