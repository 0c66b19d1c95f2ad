pub mod AsBox
mod AskedLemmas
mod FewLemmas
mod PlaceLemmas
mod TicketLemmas
