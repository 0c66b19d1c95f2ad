pub mod Reply
pub mod Shop
pub mod Stop
pub mod Feed
pub mod Opening
pub mod Finished
pub mod Answers
pub mod Order
pub mod InnerShop
pub mod InnerFeed
pub mod Members
pub use Rattle.cube_shape.specs.Region.{IsAligned}
pub use Rattle.ghost_history.specs.Sums.{times}
pub use Rattle.job_types.specs.Dim.{dim_of}
pub use Rattle.job_types.specs.Job.{JobData}
pub use Rattle.job_queue.specs.Line.{GainsEntry, GainsRefusal, IsFor, next_id}
pub use Rattle.job_queue.specs.Record.{IsSettled, accepted_jobs, fresh_lanes, fresh_passes, queued}
