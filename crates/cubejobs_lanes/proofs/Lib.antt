mod AsBox
mod AskLemmas
mod CrossLemmas
pub mod EmptyLemmas
pub mod PlaceLemmas
pub mod ReturnLemmas
