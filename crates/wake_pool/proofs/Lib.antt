pub mod SetLemmas
pub mod PartLemmas
pub mod ServedLemmas
pub mod BitLemmas
pub mod WorldLemmas
pub mod WordLemmas
