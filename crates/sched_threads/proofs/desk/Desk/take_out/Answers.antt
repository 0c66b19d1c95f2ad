use Rattle.std.proofs.Common.{subst}
use Rattle.sched_threads.specs.Desk.{DeskData}
use Rattle.sched_threads.specs.Turns.{IsTakeOutAnswer}
use Rattle.sched_threads.proofs.AnswerLemmas.{block_effect, take_out_answer}
use Rattle.sched_threads.proofs.desk.Desk.take_out.Goals as goal

pub returns-clause-answer : goal.returns-clause-answer
returns-clause-answer c =
    let e = c.take_out.ensures in
    subst (λ (x : DeskData). IsTakeOutAnswer c.args.now c.args.base c.args.dim c.take_out.result x.board c.take_out.new.self) c.self.view_is
    (take_out_answer _ _ _ _ _ _ e.follows e.stopped (block_effect _ _ _ e.woken e.more e.rest e.over e.told) e.why e.unchanged)
