pub mod LaneLemmas
pub mod DropLemmas
