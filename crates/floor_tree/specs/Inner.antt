-- Definitions that only the contracts and proofs of `TreeFloor` use.
pub mod Handle
