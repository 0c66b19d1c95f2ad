use Rattle.std.proofs.Common.{ℕ}
use Rattle.sched_threads.specs.Turns.{IsCancelAnswer}
use Rattle.sched_threads.specs.Calls.{OnBoards, Timed}
use Rattle.sched_threads.proofs.AnswerLemmas.{deeds_cancel}
use Rattle.sched_threads.proofs.WorkerLemmas.{timed, timed_turn}
use Rattle.sched_threads.proofs.CallLemmas.{made_turn, out_slot, out_turn}
use Rattle.sched_threads.proofs.threads.Threads.cancel.Goals as goal

pub slot_mut-clocked-requires : goal.slot_mut-clocked-requires
slot_mut-clocked-requires c =
    let seat = c.in_ok-seat.ensures in
    (seat.table, out_slot c.in_ok-seat.seat.me seat.took)

pub leave-requires-clause-out : goal.leave-requires-clause-out
leave-requires-clause-out c =
    let call = c.cancel-answer.ensures in
    out_turn c.in_ok-seat.seat.me _ _ c.in_ok-seat.ensures.took c.slot_mut-clocked.ensures.value
    (timed_turn c.args.now c.max-clocked.result c.slot_mut-clocked.result.now c.cancel-answer.new.self c.max-clocked.ensures
    (deeds_cancel _ _ _ _ _ call.answer, call.moves.1))

pub returns-clause-made : goal.returns-clause-made
returns-clause-made c =
    let call = c.cancel-answer.ensures in (
      c.leave.ensures.table,
      made_turn c.in_ok-seat.seat.me _ _ _ (Timed c.args.now (λ (time : ℕ). OnBoards (IsCancelAnswer time c.args.ticket c.cancel-answer.result)))
          c.in_ok-seat.ensures.took c.slot_mut-clocked.ensures.value c.leave.ensures.noted
          (timed c.args.now c.max-clocked.result c.slot_mut-clocked.result.now c.cancel-answer.new.self (λ (time : ℕ). OnBoards (IsCancelAnswer time c.args.ticket c.cancel-answer.result)) c.max-clocked.ensures (call.answer, call.chairs, call.moves)),
    )
