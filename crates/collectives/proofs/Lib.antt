pub mod PairLemmas
pub mod FoldLemmas
pub mod PadLemmas
pub mod BlockLemmas
pub mod XorLemmas
pub mod MessageLemmas
mod StepLemmas
