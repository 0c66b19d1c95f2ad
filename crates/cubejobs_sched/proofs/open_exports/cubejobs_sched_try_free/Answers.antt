-- The handle keeps the receipt of the turn that looked for use.
use Rattle.std.proofs.Common.{IfSome, Option, Some, ◌∙◌, sym, subst}
use Rattle.sched_threads.specs.declared.threads.Threads.{Threads}
use Rattle.sched_threads.specs.Seats.{SeatOf}
use Rattle.cubejobs_sched.specs.declared.ownership.Ownership.{Ownership}
use Rattle.cubejobs_sched.specs.Ends.{SawUnused, SawUse}
use Rattle.cubejobs_sched.specs.Handle.{OnThreads, receipt_of}
use Rattle.cubejobs_sched.specs.OwnerIn.{owner_in}
use Rattle.cubejobs_sched.proofs.open_exports.cubejobs_sched_try_free.Goals as goal

pub returns-in-Ok-Some-clause-unused : goal.returns-in-Ok-Some-clause-unused
returns-in-Ok-Some-clause-unused c = λ _ _.
    let owner = owner_in (Some c.in-Some.place.value) in
    let unused = subst (λ (s : Option SeatOf). IfSome s (λ (r : SeatOf). OnThreads (λ (t : Threads). SawUnused t r) owner)) c.in-Ok-Some.field-0-is c.in-Ok-Some.ensures.unused in
    let seen = subst (λ (r : SeatOf). OnThreads (λ (t : Threads). SawUnused t r) owner) (sym c.keep.ensures.receipt) unused in
    subst (λ (o : Option Ownership). OnThreads (λ (t : Threads). SawUnused t (receipt_of c.keep.new.self)) o) c.in-Some.ensures.some.0 seen

pub returns-in-Err-clause-used : goal.returns-in-Err-clause-used
returns-in-Err-clause-used c = λ _.
    let seen = subst (λ (r : SeatOf). OnThreads (λ (t : Threads). SawUse t r) (owner_in (Some c.in-Err.place.value))) (sym c.keep-in-Err.ensures.receipt) c.in-Err.ensures.used in
    subst (λ (o : Option Ownership). OnThreads (λ (t : Threads). SawUse t (receipt_of c.keep-in-Err.new.self)) o) (sym (c.keep-in-Err.ensures.owner ∙ c.put.ensures)) seen
