mod BitLemmas
mod ChangeLemmas
mod LevelLemmas
mod MoveLemmas
mod SeenFreeLemmas
mod AgreeLemmas
mod MarkLemmas
mod FreeMarkLemmas
mod RollLemmas
mod ReadLemmas
mod DebtLemmas
mod InvariantLemmas
mod HeldLemmas
mod ConsequenceLemmas
mod StandsLemmas
mod CountLemmas
mod CauseLemmas
mod ScheduleLemmas
mod WorldLemmas
pub mod OneEventLemmas
pub mod RunningLemmas
