use Rattle.std.proofs.Common.{subst}
use Rattle.sched_threads.specs.Desk.{DeskData}
use Rattle.sched_threads.specs.Turns.{IsPutBackAnswer}
use Rattle.sched_threads.proofs.AnswerLemmas.{block_effect, put_back_answer}
use Rattle.sched_threads.proofs.desk.Desk.put_back.Goals as goal

pub returns-clause-answer : goal.returns-clause-answer
returns-clause-answer c =
    let e = c.put_back.ensures in
    subst (λ (x : DeskData). IsPutBackAnswer c.args.now c.args.base c.args.dim c.put_back.result x.board c.put_back.new.self) c.self.view_is
    (put_back_answer _ _ _ _ _ _ e.follows e.stopped (block_effect _ _ _ e.woken e.more e.rest e.over e.told) e.why e.unchanged)
