use Rattle.sched_threads.specs.Calls.{OnBoards, Untimed}
use Rattle.sched_threads.specs.EndCalls.{IsGivenBack}
use Rattle.sched_threads.proofs.UseLemmas.{deeds_given}
use Rattle.sched_threads.proofs.WorkerLemmas.{untimed, untimed_turn}
use Rattle.sched_threads.proofs.CallLemmas.{made_turn, out_slot, out_turn}
use Rattle.sched_threads.proofs.threads.Threads.give_back.Goals as goal

pub slot_mut-clocked-requires : goal.slot_mut-clocked-requires
slot_mut-clocked-requires c =
    let seat = c.in_ok-seat.ensures in
    (seat.table, out_slot c.in_ok-seat.seat.me seat.took)

pub leave-requires-clause-out : goal.leave-requires-clause-out
leave-requires-clause-out c =
    let e = c.give_back-answer.ensures in
    out_turn c.in_ok-seat.seat.me _ _ c.in_ok-seat.ensures.took c.slot_mut-clocked.ensures.value
    (untimed_turn c.slot_mut-clocked.result.now c.give_back-answer.new.self
    (deeds_given _ _ _ _ _ e.answer, e.moves.1))

pub returns-clause-made : goal.returns-clause-made
returns-clause-made c =
    let e = c.give_back-answer.ensures in (
      c.leave.ensures.table,
      made_turn c.in_ok-seat.seat.me _ _ _ (Untimed (OnBoards (IsGivenBack c.args.from c.give_back-answer.result)))
          c.in_ok-seat.ensures.took c.slot_mut-clocked.ensures.value c.leave.ensures.noted
          (untimed c.slot_mut-clocked.result.now c.give_back-answer.new.self (OnBoards (IsGivenBack c.args.from c.give_back-answer.result)) (e.answer, e.chairs, e.moves)),
    )
