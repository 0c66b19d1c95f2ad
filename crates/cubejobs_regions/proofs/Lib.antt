pub mod AsBox
mod AlignLemmas
mod CrossLemmas
mod HoldLemmas
mod TagLemmas
mod TakeLemmas
