pub mod EventLemmas
