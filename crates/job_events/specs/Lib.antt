pub mod Events
pub mod Inner
pub use Rattle.jobs_csv.specs.PlaceRows.{place_columns}
pub use Rattle.dispatcher.specs.Answers.{all_replies}
