use Rattle.std.proofs.Common.{subst}
use Rattle.sched_threads.specs.Desk.{DeskData}
use Rattle.sched_threads.specs.Turns.{IsCloseAnswer}
use Rattle.sched_threads.proofs.AnswerLemmas.{close_answer, effect_of}
use Rattle.sched_threads.proofs.desk.Desk.close.Goals as goal

pub returns-clause-answer : goal.returns-clause-answer
returns-clause-answer c =
    let e = c.shut.ensures in
    subst (λ (x : DeskData). IsCloseAnswer c.args.now c.args.do_start c.shut.result x.board c.shut.new.self) c.self.view_is
    (close_answer _ _ _ _ _ e.follows e.stopped e.phase (effect_of _ _ _ e.woken e.more e.rest e.over e.told) e.open e.why e.unchanged)
