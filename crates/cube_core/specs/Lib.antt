pub mod Phase
pub mod Event
pub mod Schedule
pub mod World
pub mod Safety
pub mod Debts
pub mod Held
pub mod Count
pub mod Cause
pub mod Law
pub mod InnerPhase
pub mod InnerEffect
pub mod InnerWorld
pub use Rattle.cube_shape.specs.Node.{IsInCube, IsNodeOf, OnPath, child_of, child_towards, parent_of}
pub use Rattle.cube_shape.specs.Machine.{Gives, IsLawful, TakesBack}
pub use Rattle.status_word.specs.Word.{HasSide, IsFree, IsInUse, IsMarked, IsOccupied, IsSet, cleared, use_of, with_mark, with_side}
