pub mod Rule
pub mod Steps
pub mod Tree
pub mod Answer
pub mod Once
pub mod Alone
pub use Rattle.cube_shape.specs.Node.{IsInCube, OnPath}
pub use Rattle.cube_core.specs.Event.{phase_after_raise, phase_after_zero}
pub use Rattle.cube_core.specs.Phase.{IsAtRest}
