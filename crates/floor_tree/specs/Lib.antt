pub mod Grants
pub mod Roll
pub mod Inner
pub use Rattle.cube_shape.specs.Region.{IsAligned}
pub use Rattle.cube_tree.specs.Ends.{machine_dim, machine_words}
pub use Rattle.cube_tree.specs.Handles.{held_region}
pub use Rattle.floors.specs.Floor.{IsWhollyFree}
