pub mod JobLemmas
pub mod KeptLemmas
pub mod CoreLemmas
pub mod ChoiceLemmas
pub mod PickLemmas
pub mod HeldLemmas
pub mod BeforeLemmas
pub mod DimLemmas
