mod GrantLemmas
mod HandleLemmas
pub mod SharedLemmas
