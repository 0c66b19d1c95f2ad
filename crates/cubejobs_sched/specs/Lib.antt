pub mod Answers
pub mod Ends
pub mod Handle
pub mod InnerLending
pub mod InnerOpaquePtr
pub mod Options
pub mod OwnerIn
pub mod Ownership
pub mod Turns
pub use Rattle.sched_threads.specs.Calls.{IsDoneAnswer, IsGiveUpAnswer, IsLoseAnswer, IsNextAnswer, IsRiseAnswer, IsSitAnswer, OnBoards, Timed, Untimed}
pub use Rattle.sched_threads.specs.EndCalls.{IsGivenBack}
pub use Rattle.sched_threads.specs.Looks.{HasCounts, IsLookAnswer, Reads}
pub use Rattle.sched_threads.specs.Turns.{IsCancelAnswer, IsCloseAnswer, IsPutBackAnswer, IsSettled, IsSubmitAnswer, IsTakeOutAnswer}
