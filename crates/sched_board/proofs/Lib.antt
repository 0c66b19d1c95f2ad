pub mod FollowLemmas
pub mod ShowLemmas
pub mod ServeLemmas
pub mod RunLemmas
pub mod PoolLemmas
