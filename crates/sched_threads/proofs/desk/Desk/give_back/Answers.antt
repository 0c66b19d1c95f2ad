use Rattle.std.proofs.Common.{sym, ap, ◌∙◌, subst}
use Rattle.sched_board.specs.declared.board.BoardPhase.{BoardPhase}
use Rattle.sched_board.specs.JobBoard.{IsClosed, is_closed}
use Rattle.sched_threads.specs.Desk.{DeskData}
use Rattle.sched_threads.specs.Turns.{IsRestAnswer}
use Rattle.sched_threads.proofs.AnswerLemmas.{rest_answer}
use Rattle.sched_threads.proofs.UseLemmas.{closed_of}
use Rattle.sched_threads.proofs.desk.Desk.give_back.Goals as goal

pub returns-clause-answer : goal.returns-clause-answer
returns-clause-answer c =
    let e = c.take_rest.ensures in
    let closed = ap (λ (p : BoardPhase). is_closed p) (sym c.phase.ensures) ∙ closed_of c.phase.result (sym c.eq.ensures ∙ c.if-eq.false) in
    subst (λ (x : DeskData). IsClosed x.board × IsRestAnswer c.args.from c.take_rest.result x.board c.take_rest.new.self) c.self.view_is
    (closed, rest_answer _ _ _ _ e.taken e.closed e.none e.unchanged)
