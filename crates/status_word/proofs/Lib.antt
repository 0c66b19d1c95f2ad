pub mod WordLemmas
mod TextLemmas
