-- The lanes and workers in their places.
use Rattle.std.specs.Prelude.{◌≡◌, ℕ, ◌<◌, Option, Some, None, List, [], ◌∷◌, slice_index_or}
use Rattle.std.specs.Option.{ForSome}
use Rattle.wake_pool.specs.Words.{word_count}
use Rattle.lanes.specs.Lanes.{LanesId}
use Rattle.lanes.specs.Record.{fresh_lane, fresh_worker}
use Rattle.cubejobs_lanes.specs.declared.kept.KeptLane.{KeptLane}
use Rattle.cubejobs_lanes.specs.declared.kept.KeptWorker.{KeptWorker}

-- The lane with this number, of which nothing was asked. It has no word of sleepers to look at.
abbrev pub new_lane : LanesId → ℕ → KeptLane
new_lane id number = record {
  lane = record {
    id = id;
    known = fresh_lane id.plan.sizes.capacity number;
    next = word_count id.plan.sleepers;
    deeds = [];
  };
}

-- The worker with this number, of which nothing was asked.
abbrev pub new_worker : LanesId → ℕ → KeptWorker
new_worker id number = record {
  worker = record { id = id; known = fresh_worker id.plan number; deeds = [] };
}

-- Each of the first places has its new lane.
abbrev pub HasFreshLanes : LanesId → ℕ → List (Option KeptLane) → Type 0
HasFreshLanes id n places =
    (i : ℕ) → i < n → slice_index_or places i None ≡ Some (new_lane id i)

-- Each of the first places has its new worker.
abbrev pub HasFreshWorkers : LanesId → ℕ → List (Option KeptWorker) → Type 0
HasFreshWorkers id n places =
    (i : ℕ) → i < n → slice_index_or places i None ≡ Some (new_worker id i)

-- A lane of these lanes with this number.
abbrev pub IsLaneAt : LanesId → ℕ → KeptLane → Type 0
IsLaneAt id number kept = (kept.lane.id ≡ id) × (kept.lane.known.number ≡ number)

-- A worker of these lanes with this number.
abbrev pub IsWorkerAt : LanesId → ℕ → KeptWorker → Type 0
IsWorkerAt id number kept = (kept.worker.id ≡ id) × (kept.worker.known.number ≡ number)

-- Each place is empty or has its lane.
abbrev pub AreLanes : LanesId → List (Option KeptLane) → Type 0
AreLanes id places = (i : ℕ) → ForSome (slice_index_or places i None) (IsLaneAt id i)

-- Each place is empty or has its worker.
abbrev pub AreWorkers : LanesId → List (Option KeptWorker) → Type 0
AreWorkers id places = (i : ℕ) → ForSome (slice_index_or places i None) (IsWorkerAt id i)

-- What the contents of full places are by this function, in order.
abbrev pub kept_by : {T R : Type 0} → (T → R) → List (Option T) → List R
kept_by f [] = []
kept_by f (Some kept ∷ places) = f kept ∷ kept_by f places
kept_by f (None ∷ places) = kept_by f places
