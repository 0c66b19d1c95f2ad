use Rattle.std.proofs.Common.{ℕ}
use Rattle.sched_threads.specs.Calls.{IsDoneAnswer, Timed}
use Rattle.sched_threads.proofs.WorkerLemmas.{done_answer, stop_turn, timed, timed_turn}
use Rattle.sched_threads.proofs.CallLemmas.{made_turn, out_slot, out_turn}
use Rattle.sched_threads.proofs.threads.Threads.done.Goals as goal

pub slot_mut-clocked-requires : goal.slot_mut-clocked-requires
slot_mut-clocked-requires c =
    let seat = c.in_ok-seat.ensures in
    (seat.table, out_slot c.in_ok-seat.seat.me seat.took)

pub leave-requires-clause-out : goal.leave-requires-clause-out
leave-requires-clause-out c =
    let e = c.done-answer.ensures in
    out_turn c.in_ok-seat.seat.me _ _ c.in_ok-seat.ensures.took c.slot_mut-clocked.ensures.value
    (timed_turn c.args.now c.max-clocked.result c.slot_mut-clocked.result.now c.done-answer.new.self c.max-clocked.ensures
    (stop_turn _ _ _ _ _ _ e.stopped e.moves e.same))

pub returns-clause-made : goal.returns-clause-made
returns-clause-made c =
    let e = c.done-answer.ensures in (
      c.leave.ensures.table,
      made_turn c.in_ok-seat.seat.me _ _ _ (Timed c.args.now (λ (time : ℕ). IsDoneAnswer time c.args.worker c.done-answer.result))
          c.in_ok-seat.ensures.took c.slot_mut-clocked.ensures.value c.leave.ensures.noted
          (timed c.args.now c.max-clocked.result c.slot_mut-clocked.result.now c.done-answer.new.self (λ (time : ℕ). IsDoneAnswer time c.args.worker c.done-answer.result) c.max-clocked.ensures (done_answer _ _ _ _ _ e.had e.stopped e.out e.others e.moves e.wrong e.same)),
    )
