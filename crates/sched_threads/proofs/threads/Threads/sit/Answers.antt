use Rattle.sched_threads.specs.Calls.{IsSitAnswer, Untimed}
use Rattle.sched_threads.proofs.WorkerLemmas.{sit_answer, sit_turn, untimed, untimed_turn}
use Rattle.sched_threads.proofs.CallLemmas.{made_turn, out_slot, out_turn}
use Rattle.sched_threads.proofs.threads.Threads.sit.Goals as goal

pub slot_mut-clocked-requires : goal.slot_mut-clocked-requires
slot_mut-clocked-requires c =
    let seat = c.in_ok-seat.ensures in
    (seat.table, out_slot c.in_ok-seat.seat.me seat.took)

pub leave-requires-clause-out : goal.leave-requires-clause-out
leave-requires-clause-out c =
    let e = c.sit-answer.ensures in
    out_turn c.in_ok-seat.seat.me _ _ c.in_ok-seat.ensures.took c.slot_mut-clocked.ensures.value
    (untimed_turn c.slot_mut-clocked.result.now c.sit-answer.new.self
    (sit_turn c.slot_mut-clocked.result.now.clock c.slot_mut-clocked.result.now.desk c.sit-answer.new.self e.board))

pub returns-clause-made : goal.returns-clause-made
returns-clause-made c =
    let e = c.sit-answer.ensures in (
      c.leave.ensures.table,
      made_turn c.in_ok-seat.seat.me _ _ _ (Untimed (IsSitAnswer c.sit-answer.result))
          c.in_ok-seat.ensures.took c.slot_mut-clocked.ensures.value c.leave.ensures.noted
          (untimed c.slot_mut-clocked.result.now c.sit-answer.new.self (IsSitAnswer c.sit-answer.result) (sit_answer _ _ _ e.board e.inside e.free e.here e.others e.none e.same)),
    )
