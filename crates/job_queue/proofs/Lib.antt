pub mod AcceptedLemmas
pub mod FeedLemmas
pub mod ListLemmas
pub mod RisingLemmas
pub mod LentLemmas
