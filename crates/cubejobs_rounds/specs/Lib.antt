pub mod Rounds
pub use Rattle.collectives.specs.Messages.{IsAlongAnEdge}
pub use Rattle.collectives.specs.Shape.{message_count}
pub use Rattle.collectives.specs.Steps.{IsListed, IsNumber, message}
