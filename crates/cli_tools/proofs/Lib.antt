pub mod EndingLemmas
pub mod MessageLemmas
