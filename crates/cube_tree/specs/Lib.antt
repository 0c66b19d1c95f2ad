pub mod Seats
pub mod Handles
pub mod Ends
pub mod InnerEnds
pub mod Tries
pub mod Search
pub mod Hint
pub mod InnerSearch
pub mod Slots
pub mod InnerSolo
pub mod Solo
pub use Rattle.cube_shape.specs.Node.{IsInCube}
pub use Rattle.cube_shape.specs.Region.{AreApart, IsAligned, block}
pub use Rattle.cube_shape.specs.Machine.{Gives, HasNoFit, IsFirstFit, IsLawful, TakesBack}
pub use Rattle.cube_core.specs.Held.{region_at}
pub use Rattle.tree_steps.specs.Rule.{idle_entries}
pub use Rattle.tree_steps.specs.Tree.{dim_of, id_of, read_words, station_count}
