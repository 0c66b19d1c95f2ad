-- Each place is empty, or has its lane or its worker.
use Rattle.std.proofs.Common.{subst}
use Rattle.std.specs.Arc.{arc_value}
use Rattle.cubejobs_lanes.specs.declared.kept.KeptLane.{KeptLane}
use Rattle.cubejobs_lanes.specs.declared.kept.KeptWorker.{KeptWorker}
use Rattle.cubejobs_lanes.specs.declared.name.PlaceName.{PlaceName}
use Rattle.cubejobs_lanes.specs.Kept.{IsLaneAt, IsWorkerAt}
use Rattle.cubejobs_lanes.specs.KeptReturns.{HaveComeBack}
use Rattle.cubejobs_lanes.proofs.ReturnLemmas.{lanes_back, workers_back}
use Rattle.cubejobs_lanes.specs.declared.common.Common.{Common}
use Rattle.cubejobs_lanes.proofs.owner.Owner.collect.Goals as goal

pub invariant_of-self-clause-lanes_are : goal.invariant_of-self-clause-lanes_are
invariant_of-self-clause-lanes_are c =
    let self = c.args.self.now in let common = arc_value self.common in let new = c.collect_all.new.places.items in
    lanes_back common.lanes common.lanes.plan.sizes.lanes common.lane_places.items self.lanes.items new common.lane_count common.lanes_named self.lanes_are
    (subst (λ (x : Common). HaveComeBack (λ (name : PlaceName) (kept : KeptLane). IsLaneAt name.lanes.value name.number kept) x.lane_places.items self.lanes.items new) c.deref.ensures c.collect_all.ensures)

pub invariant_of-self-clause-workers_are : goal.invariant_of-self-clause-workers_are
invariant_of-self-clause-workers_are c =
    let self = c.args.self.now in let common = arc_value self.common in let new = c.collect_all-2.new.places.items in
    workers_back common.lanes common.lanes.plan.sizes.workers common.worker_places.items self.workers.items new common.worker_count common.workers_named self.workers_are
    (subst (λ (x : Common). HaveComeBack (λ (name : PlaceName) (kept : KeptWorker). IsWorkerAt name.lanes.value name.number kept) x.worker_places.items self.workers.items new) c.deref-2.ensures c.collect_all-2.ensures)
