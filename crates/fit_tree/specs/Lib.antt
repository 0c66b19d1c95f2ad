pub mod Rooms
pub mod Image
pub mod Fit
pub mod FirstApart
pub mod Halves
pub mod Parts
pub mod Topmost
pub mod InnerFit
pub mod InnerNodes
pub mod InnerApart
pub mod InnerRepresents
pub mod InnerRepair
pub use Rattle.cube_shape.specs.Region.{Covers, IsAligned, block}
pub use Rattle.cube_shape.specs.Machine.{Gives, HasNoFit, Holdings, IsFirstFit, IsFree, IsLawful, TakesBack}
pub use Rattle.cube_shape.specs.Falling.{HoldsNoNarrower, IsFull, IsHeld}
pub use Rattle.alloc_bits.specs.Count.{IsCount}
pub use Rattle.fixed_vec.specs.Spending.{HasWords, Spends}
pub use Rattle.cube_shape.specs.Node.{IsNodeOf}
