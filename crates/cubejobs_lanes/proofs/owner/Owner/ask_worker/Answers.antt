-- What came back is collected, and then a worker is dealt out, or not.
use Rattle.std.proofs.Common.{refl}
use Rattle.cubejobs_lanes.proofs.AskLemmas.{full_of}
use Rattle.cubejobs_lanes.proofs.owner.Owner.ask_worker.Goals as goal

pub returns-in-Ok-clause-dealt : goal.returns-in-Ok-clause-dealt
returns-in-Ok-clause-dealt c = let mid = c.collect.new.self in let dealt = c.in-Ok.ensures.dealt in record {
  mid = mid;
  collected = c.collect.ensures;
  code_is = full_of mid.workers.items dealt.place dealt.kept dealt.was;
  dealt = λ _. dealt;
  refused = λ not. absurd (not refl);
}

pub returns-in-Err-clause-refused : goal.returns-in-Err-clause-refused
returns-in-Err-clause-refused c content = let e = c.in-Err.ensures in record {
  mid = c.collect.new.self;
  collected = c.collect.ensures;
  code_is = e.refused;
  dealt = λ done. absurd (e.not_done done);
  refused = λ _. e.unchanged;
}
