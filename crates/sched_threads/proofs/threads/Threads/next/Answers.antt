use Rattle.std.proofs.Common.{ℕ}
use Rattle.sched_threads.specs.Calls.{IsNextAnswer, Timed}
use Rattle.sched_threads.proofs.CallLemmas.{made_turn, out_slot, out_turn}
use Rattle.sched_threads.proofs.WorkerLemmas.{next_answer, next_turn, timed, timed_turn}
use Rattle.sched_threads.proofs.threads.Threads.next.Goals as goal

pub slot_mut-clocked-requires : goal.slot_mut-clocked-requires
slot_mut-clocked-requires c =
    let seat = c.in_ok-seat.ensures in
    (seat.table, out_slot c.in_ok-seat.seat.me seat.took)

pub leave-requires-clause-out : goal.leave-requires-clause-out
leave-requires-clause-out c =
    let e = c.next-answer.ensures in
    out_turn c.in_ok-seat.seat.me _ _ c.in_ok-seat.ensures.took c.slot_mut-clocked.ensures.value
    (timed_turn c.args.now c.max-clocked.result c.slot_mut-clocked.result.now c.next-answer.new.self c.max-clocked.ensures
    (next_turn _ _ _ _ _ (next_answer _ _ _ _ _ e.served e.has e.asked e.others e.moves e.wrong e.same)))

pub returns-clause-made : goal.returns-clause-made
returns-clause-made c =
    let e = c.next-answer.ensures in (
      c.leave.ensures.table,
      made_turn c.in_ok-seat.seat.me _ _ _ (Timed c.args.now (λ (time : ℕ). IsNextAnswer time c.args.worker c.next-answer.result))
          c.in_ok-seat.ensures.took c.slot_mut-clocked.ensures.value c.leave.ensures.noted
          (timed c.args.now c.max-clocked.result c.slot_mut-clocked.result.now c.next-answer.new.self (λ (time : ℕ). IsNextAnswer time c.args.worker c.next-answer.result) c.max-clocked.ensures (next_answer _ _ _ _ _ e.served e.has e.asked e.others e.moves e.wrong e.same)),
    )
