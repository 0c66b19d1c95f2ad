mod HandleLemmas
mod OpeningLemmas
mod EndLemmas
mod RefusalLemmas
pub mod TryLemmas
mod SearchLemmas
mod ApartLemmas
mod MovedLemmas
mod FitLemmas
pub mod SharedLemmas
mod ToldLemmas
