-- How lanes end.
use Rattle.std.specs.Prelude.{◌≡◌, ℕ, Option, Some, List}
use Rattle.lanes.specs.declared.record.LaneRecord.{LaneRecord}
use Rattle.lanes.specs.declared.record.WorkerRecord.{WorkerRecord}
use Rattle.lanes.specs.Lanes.{LanesId}
use Rattle.lanes.specs.Run.{WholeLanes}
use Rattle.cubejobs_lanes.specs.declared.kept.KeptLane.{KeptLane}
use Rattle.cubejobs_lanes.specs.declared.kept.KeptWorker.{KeptWorker}
use Rattle.cubejobs_lanes.specs.declared.left.Left.{Left}
use Rattle.cubejobs_lanes.specs.declared.stage.Stage.{Stage}
use Rattle.cubejobs_lanes.specs.Kept.{kept_by}
use Rattle.cubejobs_lanes.specs.Stages.{IsClosedAt}

-- The place has a lane of these lanes.
abbrev pub IsLaneIn : LanesId → Option KeptLane → Type 0
IsLaneIn id place = (kept : KeptLane) × (place ≡ Some kept) × (kept.lane.id ≡ id)

-- The place has a worker of these lanes.
abbrev pub IsWorkerIn : LanesId → Option KeptWorker → Type 0
IsWorkerIn id place = (kept : KeptWorker) × (place ≡ Some kept) × (kept.worker.id ≡ id)

-- The records of the lanes in their places.
abbrev pub kept_lanes : List (Option KeptLane) → List LaneRecord
kept_lanes = kept_by (λ kept. kept.lane.known)

-- The records of the workers in their places.
abbrev pub kept_workers : List (Option KeptWorker) → List WorkerRecord
kept_workers = kept_by (λ kept. kept.worker.known)

-- The jobs are those that are left of closed lanes, by the records in these places.
pub record IsLeftOf (id : LanesId) (stage : Stage) (lanes : List (Option KeptLane))
    (workers : List (Option KeptWorker)) (left : Left) : Type 0 where
  pub counts : List ℕ
  pub closed : IsClosedAt counts stage
  pub whole : WholeLanes id.plan.sizes (kept_lanes lanes) (kept_workers workers) left.jobs.items
      counts
