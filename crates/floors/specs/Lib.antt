pub mod Floor
pub use Rattle.cube_shape.specs.Region.{AreApart, IsAligned}
