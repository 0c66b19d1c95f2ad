mod ImageLemmas
mod SameLemmas
