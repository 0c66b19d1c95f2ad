pub mod RuleLemmas
pub mod EventLemmas
pub mod WalkLemmas
mod ClosedLemmas
pub mod SeatLemmas
pub mod BoundLemmas
pub mod PeekLemmas
pub mod OnceLemmas
pub mod AloneLemmas
mod ReadLemmas
mod TreeLemmas
