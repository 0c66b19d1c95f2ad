pub mod StepLemmas
pub mod FirstLemmas
pub mod GoesLemmas
