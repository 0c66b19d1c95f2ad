-- The call takes the block exactly if it is vacant.
use Rattle.std.proofs.Common.{true≢false, sym, ◌∙◌}
use Rattle.cubejobs_plan.proofs.serving.occupy.Goals as goal

pub returns-then-not-occupy-clause-wrong_state : goal.returns-then-not-occupy-clause-wrong_state
returns-then-not-occupy-clause-wrong_state c = λ code w k vacant.
    absurd (true≢false (sym ((c.occupy.ensures.vacant w k).1 vacant) ∙ c.if-not-occupy.true))

pub returns-clause-occupied : goal.returns-clause-occupied
returns-clause-occupied c = λ code. record {
  vacant = λ w k. (c.occupy.ensures.vacant w k).0 c.if-not-occupy.false;
  shows = λ w k. c.occupy.ensures.shows w k ((c.occupy.ensures.vacant w k).0 c.if-not-occupy.false);
  jobs = c.occupy.ensures.jobs;
}
