-- How a job is stored, and how its rounds are tied to plain folds. No public contract cites these.
pub mod Collective
pub mod Items
pub mod Job
pub mod Kept
pub mod PackedKind
pub mod Reply
pub mod Work
