pub mod Laws
pub mod Operations
pub mod Places
pub mod Shape
pub mod Messages
pub mod Steps
pub mod Inner
pub use Rattle.cube_shape.specs.Neighbour
