use Rattle.std.proofs.Common.{refl}
use Rattle.sched_threads.specs.EndCalls.{LooksForUse}
use Rattle.sched_threads.specs.Calls.{Untimed}
use Rattle.sched_threads.proofs.UseLemmas.{says_use}
use Rattle.sched_threads.proofs.WorkerLemmas.{read_turn, untimed, untimed_turn}
use Rattle.sched_threads.proofs.CallLemmas.{made_turn, out_slot, out_turn}
use Rattle.sched_threads.proofs.threads.Threads.is_used.Goals as goal

pub slot_mut-clocked-requires : goal.slot_mut-clocked-requires
slot_mut-clocked-requires c =
    let seat = c.in_ok-seat.ensures in
    (seat.table, out_slot c.in_ok-seat.seat.me seat.took)

pub leave-requires-clause-out : goal.leave-requires-clause-out
leave-requires-clause-out c =
    out_turn c.in_ok-seat.seat.me _ _ c.in_ok-seat.ensures.took c.slot_mut-clocked.ensures.value
    (untimed_turn c.slot_mut-clocked.result.now c.slot_mut-clocked.result.now.desk
    (read_turn _ c.slot_mut-clocked.result.now.desk _ refl))

pub returns-clause-made : goal.returns-clause-made
returns-clause-made c =
    let e = c.is_used-answer.ensures in (
      c.leave.ensures.table,
      made_turn c.in_ok-seat.seat.me _ _ _ (Untimed (LooksForUse c.is_used-answer.result))
          c.in_ok-seat.ensures.took c.slot_mut-clocked.ensures.value c.leave.ensures.noted
          (untimed c.slot_mut-clocked.result.now c.slot_mut-clocked.result.now.desk (LooksForUse c.is_used-answer.result) (says_use _ _ e.used e.unused, refl)),
    )
