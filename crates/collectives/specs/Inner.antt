-- What no public contract reaches: the rounds of a collective, and the proofs of the monoids' laws.
-- The proofs are here because an `impl` can cite only what is in `specs/`.
pub mod Rounds
pub mod OperationLaws
