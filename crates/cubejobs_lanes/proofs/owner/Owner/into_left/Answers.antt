use Rattle.std.proofs.Common.{◌≡◌, subst, sym}
use Rattle.std.specs.Arc.{arc_value}
use Rattle.std.specs.List.{All}
use Rattle.cubejobs_lanes.specs.declared.common.Common.{Common}
use Rattle.cubejobs_lanes.specs.declared.kept.KeptLane.{KeptLane}
use Rattle.cubejobs_lanes.specs.declared.kept.KeptWorker.{KeptWorker}
use Rattle.cubejobs_lanes.specs.Ending.{IsLaneIn, IsWorkerIn}
use Rattle.cubejobs_lanes.specs.Kept.{IsLaneAt, IsWorkerAt}
use Rattle.cubejobs_lanes.proofs.PlaceLemmas.{all_full}
use Rattle.cubejobs_lanes.proofs.owner.Owner.into_left.Goals as goal

pub left_of-requires-clause-lanes : goal.left_of-requires-clause-lanes
left_of-requires-clause-lanes c =
    let self = c.args.self in let id = (arc_value self.common).lanes in
    subst (λ (x : Common). All (IsLaneIn x.lanes) self.lanes.items) (sym c.in-Ok.ensures.ok)
    (all_full (λ (kept : KeptLane). kept.lane.id ≡ id) (IsLaneAt id) self.lanes.items (λ i kept is. is.0) self.lanes_are c.requires.back.lanes)

pub left_of-requires-clause-workers : goal.left_of-requires-clause-workers
left_of-requires-clause-workers c =
    let self = c.args.self in let id = (arc_value self.common).lanes in
    subst (λ (x : Common). All (IsWorkerIn x.lanes) self.workers.items) (sym c.in-Ok.ensures.ok)
    (all_full (λ (kept : KeptWorker). kept.worker.id ≡ id) (IsWorkerAt id) self.workers.items (λ i kept is. is.0) self.workers_are c.requires.back.workers)
