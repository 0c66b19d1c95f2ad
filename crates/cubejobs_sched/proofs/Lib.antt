pub mod AsBox
pub mod TurnLemmas
