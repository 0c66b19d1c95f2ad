pub mod State
pub mod Policy
pub mod Law
pub mod Team
pub mod Outcome
pub use Rattle.cube_shape.specs.Region.{AreApart, Covers, IsAligned, block}
pub use Rattle.cube_shape.specs.Machine.{Holdings, IsFree, IsLawful}
pub use Rattle.cube_shape.specs.Falling.{IsHeld}
pub use Rattle.alloc_bits.specs.Count.{IsCount}
pub use Rattle.fit_tree.specs.Halves.{lower_half, upper_half}
