pub mod ListLemmas
pub mod HistoryLemmas
pub mod KeepLemmas
pub mod SeatLemmas
pub mod EndLemmas
pub mod DealLemmas
pub mod DrainLemmas
