pub mod Collective
pub mod Dim
pub mod Job
pub mod Reply
pub mod Inner
pub use Rattle.cube_shape.specs.Region
pub use Rattle.collectives.specs.Shape
