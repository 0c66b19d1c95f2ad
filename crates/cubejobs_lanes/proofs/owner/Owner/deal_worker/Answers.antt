-- The worker is the one that was in the first full place.
use Rattle.std.proofs.Common.{rules, Some, ap, List, Option, subst, sym}
use Rattle.std.specs.Arc.{arc_value}
use Rattle.cubejobs_lanes.specs.declared.kept.KeptWorker.{KeptWorker}
use Rattle.cubejobs_lanes.specs.Kept.{AreWorkers}
use Rattle.cubejobs_lanes.proofs.EmptyLemmas.{empty_worker}
use Rattle.cubejobs_lanes.proofs.owner.Owner.deal_worker.Goals as goal

pub invariant_of-self-clause-workers_are : goal.invariant_of-self-clause-workers_are
invariant_of-self-clause-workers_are c =
    let self = c.args.self.now in let id = (arc_value self.common).lanes in
    subst (λ (xs : List (Option KeptWorker)). AreWorkers id xs) (sym c.take_from.ensures.empty)
    (empty_worker id self.workers.items c.in-Some.place c.in-Some.ensures.inside self.workers_are)

pub returns-clause-dealt : goal.returns-clause-dealt
returns-clause-dealt c = record {
  place = c.in-Some.place;
  kept = c.in-Some-take_from.kept;
  side = _;
  first = search rules;
  was = search rules;
  is = ap Some c.filled.ensures;
  worker = search rules;
  share = search rules;
  emptied = search rules;
  common = search rules;
  stage = search rules;
  lanes = search rules;
}
