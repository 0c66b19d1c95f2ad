-- What holds of a batch that was not finished.
use Rattle.std.specs.Prelude.{Vec}
use Rattle.std.specs.declared.alloc.Global.{Global}
use Rattle.std.specs.declared.collections.VecDeque.{VecDeque}
use Rattle.job_types.specs.Job.{JobData}
use Rattle.dispatcher.specs.declared.opening.ShopRefused.{ShopRefused}
use Rattle.dispatcher_threads.specs.declared.running.RunEnd.{RunEnd}
use Rattle.dispatcher_threads.specs.declared.answering.StopReason.{StopReason}
use Rattle.dispatcher_threads.specs.declared.answering.RunError.{RunError}
use Rattle.dispatcher_threads.specs.declared.answering.RunError.TheVariants.{Refused, Unfinished}

-- A statement about a batch: `P` if no job ran, `Q` if some may have run.
abbrev pub MatchRunError : {M : Type 0}
    → RunError M
    → (ShopRefused → Vec (VecDeque JobData Global) Global → Type 0)
    → (StopReason → RunEnd M → Type 0)
    → Type 0
MatchRunError (Refused why jobs) P Q = P why jobs
MatchRunError (Unfinished why end) P Q = Q why end
