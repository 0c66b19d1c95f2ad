pub mod Desk
pub mod Turns
pub mod View
pub mod Rule
pub mod Step
pub mod Seats
pub mod InnerHiddenReceipt
pub mod HiddenReceipts
pub mod Handle
pub mod Ends
pub mod Calls
pub mod Looks
pub mod EndCalls
pub use Rattle.sched_board.specs.Pool.{worker_in, workers_of}
pub use Rattle.sched_board.specs.JobBoard.{IsFresh}
