-- What came back is collected, and then the lanes end, or not.
use Rattle.std.proofs.Common.{inl, inr, refl, sym, subst}
use Rattle.cubejobs_lanes.specs.declared.owner.Owner.{Owner as LanesOwner}
use Rattle.cubejobs_lanes.specs.Finish.{IsFinishAnswer}
use Rattle.cubejobs_lanes.specs.Returns.{HasCollected}
use Rattle.cubejobs_lanes.proofs.AskLemmas.{shared_not_done}
use Rattle.cubejobs_lanes.proofs.owner.Owner.finish.Goals as goal

pub returns-then-answer-ne-DONE : goal.returns-then-answer-ne-DONE
returns-then-answer-ne-DONE c = record {
  mid = c.collect.new.self;
  collected = c.collect.ensures;
  answer_is = inl c.finish_code-answer.ensures.code;
  ended = λ done. absurd (c.if-answer-ne-DONE.true done);
  refused = λ _. refl;
}

pub returns-in-Ok : goal.returns-in-Ok
returns-in-Ok c = record {
  mid = c.collect.new.self;
  collected = c.collect.ensures;
  answer_is = inl c.finish_code-answer.ensures.code;
  ended = λ _. c.in-Ok.ensures.ended;
  refused = λ not. absurd (not c.if-answer-ne-DONE.false);
}

pub returns-in-Err : goal.returns-in-Err
returns-in-Err c =
    let mid = c.collect.new.self in let code = c.finish_code-answer.ensures in let done = c.if-answer-ne-DONE.false in
    let same = c.in-Err.ensures.same in
    record {
      mid = c.in-Err.owner;
      collected = subst (λ (x : LanesOwner). HasCollected c.args.self x) (sym same) c.collect.ensures;
      answer_is = subst (λ (x : LanesOwner). IsFinishAnswer c.of.result x) (sym same) (inr (code.closed done, code.back done, c.of.ensures));
      ended = λ is. absurd (shared_not_done c.of.result c.of.ensures is);
      refused = λ _. refl;
    }
