pub mod Answers
pub use Rattle.cube_shape.specs.Region.{Covers, IsAligned, block}
pub use Rattle.cube_shape.specs.Machine.{Gives, HasNoFit, Holdings, IsFirstFit, IsFree, TakesBack}
pub use Rattle.cube_shape.specs.Falling.{HoldsNoNarrower, IsFreeProcessor, IsFull, IsHeld}
pub use Rattle.alloc_bits.specs.Count.{IsCount}
pub use Rattle.fit_tree.specs.Fit.{HoldsBlock}
pub use Rattle.fit_tree.specs.FirstApart.{HasNoneApart, IsFirstApart}
pub use Rattle.fit_tree.specs.Halves.{HoldsHalves, Joins, Splits}
pub use Rattle.fit_tree.specs.Image.{IsImage, fit_in}
pub use Rattle.fit_tree.specs.Topmost.{IsTopmost}
