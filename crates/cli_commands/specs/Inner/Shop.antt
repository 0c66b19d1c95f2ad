-- What is returned for a dispatcher that has not run all jobs.
use Rattle.std.specs.Prelude.{Some, None}
use Rattle.dispatcher_threads.specs.declared.answering.StopReason.{StopReason}
use Rattle.dispatcher_threads.specs.declared.answering.StopReason.TheVariants as why
use Rattle.dispatcher_threads.specs.declared.answering.RunError.{RunError}
use Rattle.dispatcher_threads.specs.declared.answering.RunError.TheVariants as stopped
use Rattle.jobs_csv.specs.declared.fault.FaultKind.{FaultKind}
use Rattle.jobs_csv.specs.declared.fault.FaultKind.TheVariants as what
use Rattle.cli_commands.specs.declared.shop.AnswerError.{AnswerError}

-- The kind of the fault, by the reason: a lane is spent, or else memory ran out.
abbrev pub kind_of_reason : StopReason → FaultKind
kind_of_reason why.OutOfMemory = what.OutOfMemory
kind_of_reason why.Spent = what.Spent

-- The fault of a dispatcher that stopped, with its run if there was one.
abbrev pub error_of : {M : Type 0} → RunError M → AnswerError M
error_of (stopped.Refused why jobs) =
    record { fault = record { row = 0; what = what.OutOfMemory }; end = None }
error_of (stopped.Unfinished why end) =
    record { fault = record { row = 0; what = kind_of_reason why }; end = Some end }
