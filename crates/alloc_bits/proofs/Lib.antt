mod SlotLemmas
mod HoldingsLemmas
mod BitLemmas
pub mod ScanLemmas
pub mod RepresentsLemmas
