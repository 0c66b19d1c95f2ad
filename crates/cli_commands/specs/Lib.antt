pub mod JobIds
pub mod OpenLanes
pub mod Replies
pub mod FileRun
pub mod ReportRows
pub mod Report
pub mod Answer
pub mod Events
pub mod Trace
pub mod Place
pub mod Replay
pub mod Program
pub mod Inner
pub use Rattle.floors.specs.Floor.{IsWhollyFree}
pub use Rattle.job_types.specs.Job.{JobData}
pub use Rattle.dispatcher_threads.specs.Done.{IsDone}
pub use Rattle.dispatcher_threads.specs.Members.{RanIn}
pub use Rattle.jobs_csv.specs.Fault.{IsInputFault, attribute, fault_text}
pub use Rattle.jobs_csv.specs.Jobs.{parse_jobs}
pub use Rattle.jobs_csv.specs.Replies.{reply_columns, reply_fields}
pub use Rattle.jobs_csv.specs.ReportRows.{report_columns, report_fields}
pub use Rattle.jobs_csv.specs.Text.{file_text}
pub use Rattle.jobs_csv.specs.ValueRows.{values_text}
pub use Rattle.cli_args.specs.CommandLine.{AreShopSizes, IsWithinLimits}
pub use Rattle.atomic_file.specs.Store.{KeepsFiles, KeepsOthers, begun_by, held_by}
pub use Rattle.dispatcher.specs.Answers.{all_replies}
pub use Rattle.dispatcher.specs.Reply.{IsRight, answered}
pub use Rattle.job_events.specs.Events.{AreEvents, event_fields}
pub use Rattle.jobs_csv.specs.PlaceRows.{place_columns}
