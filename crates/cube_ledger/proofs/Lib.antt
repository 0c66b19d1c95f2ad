pub mod TotalLemmas
pub mod TableLemmas
pub mod RunLemmas
pub mod RegionLemmas
pub mod AncestorLemmas
mod LogWalks
