pub mod Ending
pub mod Messages
pub mod Check
pub mod Inner
pub mod MessageRows
pub mod Listing
pub use Rattle.atomic_file.specs.Store.{held_by}
pub use Rattle.jobs_csv.specs.Fault.{attribute}
pub use Rattle.collectives.specs.Messages.{IsMessage, message_number}
pub use Rattle.jobs_csv.specs.Text.{file_text}
