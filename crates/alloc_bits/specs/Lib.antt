pub mod Represents
pub mod Count
pub mod Bits
pub mod Allocation
pub mod Inner
pub use Rattle.cube_shape.specs.Region.{Covers, IsAligned, block}
pub use Rattle.cube_shape.specs.Machine.{Gives, HasNoFit, Holdings, IsFirstFit, IsFree, IsLawful, TakesBack}
