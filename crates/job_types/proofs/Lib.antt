pub mod DimLemmas
pub mod JobCodeLemmas
pub mod PlaceLemmas
pub mod RefusalLemmas
pub mod ResultLemmas
