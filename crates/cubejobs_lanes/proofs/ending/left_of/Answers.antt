use Rattle.std.proofs.Common.{◌∙◌, ◌++◌, ap, length}
use Rattle.cubejobs_lanes.specs.declared.kept.KeptLane.{KeptLane}
use Rattle.cubejobs_lanes.specs.declared.kept.KeptWorker.{KeptWorker}
use Rattle.cubejobs_lanes.specs.Ending.{kept_lanes, kept_workers}
use Rattle.cubejobs_lanes.proofs.PlaceLemmas.{kept_count}
use Rattle.cubejobs_lanes.proofs.ending.left_of.Goals as goal

pub into_rest-requires-clause-lanes : goal.into_rest-requires-clause-lanes
into_rest-requires-clause-lanes c = let items = c.args.lanes.items in
    ap length (c.gather_workers.ensures.lanes ∙ (c.gather_lanes.ensures.lanes ∙ ap (λ xs. xs ++ kept_lanes items) c.into_end-end.ensures.lanes))
    ∙ (kept_count (λ (kept : KeptLane). kept.lane.known) items c.requires.full_lanes ∙ c.requires.all_lanes)

pub into_rest-requires-clause-workers : goal.into_rest-requires-clause-workers
into_rest-requires-clause-workers c = let items = c.args.workers.items in
    ap length (c.gather_workers.ensures.workers ∙ ap (λ xs. xs ++ kept_workers items) (c.gather_lanes.ensures.workers ∙ c.into_end-end.ensures.workers))
    ∙ (kept_count (λ (kept : KeptWorker). kept.worker.known) items c.requires.full_workers ∙ c.requires.all_workers)
