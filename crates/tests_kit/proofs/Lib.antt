mod ListLemmas
mod OnlyLemmas
pub mod PairLemmas
