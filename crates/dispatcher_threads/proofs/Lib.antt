mod MemberLemmas
mod EndLemmas
pub mod SlotLemmas
pub mod AnswerLemmas
pub mod RunLemmas
pub mod DoneLemmas
pub mod BatchLemmas
