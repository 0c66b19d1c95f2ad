pub mod WorkLemmas
pub mod EntryLemmas
pub mod OpenLemmas
pub mod GoesOverLemmas
pub mod FinishLemmas
pub mod OnceLemmas
pub mod GrantLemmas
pub mod SameJobLemmas
pub mod PermutationLemmas
mod OrderLemmas
