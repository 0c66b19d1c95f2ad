pub mod HistoryLemmas
pub mod EnteringLemmas
pub mod StepLemmas
pub mod DealLemmas
pub mod EndLemmas
