pub mod JoinLemmas
pub mod DealtLemmas
pub mod ListedLemmas
pub mod EndJoinLemmas
