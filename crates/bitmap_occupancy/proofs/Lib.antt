mod CountLemmas
mod LevelLemmas
mod PathLemmas
mod ReadLemmas
mod RunLemmas
mod TotalLemmas
mod WordLemmas
