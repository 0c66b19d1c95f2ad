pub mod RuleLemmas
pub mod StepLemmas
pub mod MaskLemmas
pub mod LayoutLemmas
pub mod TrailLemmas
pub mod CloseLemmas
pub mod AloneLemmas
pub mod FreeLemmas
pub mod HalfLemmas
pub mod SweepLemmas
pub mod BlockLemmas
pub mod SeatLemmas
mod SeatFields
