-- What the records of all producers and workers say together, once the lanes have ended.
use Rattle.std.specs.Prelude.{◌≡◌, ℕ, zero, suc, ◌+◌, ◌-◌, ◌<◌, true, cond, Some, List, [], ◌∷◌, ◌++◌, ◌==◌, length, map, slice_index}
use Rattle.std.specs.List.{AllByRecursion as Each}
use Rattle.ghost_history.specs.Sums.{total, is_at}
use Rattle.lanes.specs.declared.sizes.Sizes.{Sizes}
use Rattle.lanes.specs.declared.record.LaneJob.{LaneJob}
use Rattle.lanes.specs.declared.record.LaneRecord.{LaneRecord}
use Rattle.lanes.specs.declared.record.WorkerRecord.{WorkerRecord}
use Rattle.lanes.specs.Record.{take_of, AreSeqs, Rises}
use Rattle.lanes.specs.History.{Deed, count, taken, closed_at, lane_part, take_part, IsLegal}

-- The record of a lane, those of all workers, the jobs that are left in the lane, and its close
-- number.
pub record WholeLane (sizes : Sizes) (lane : LaneRecord) (workers : List WorkerRecord)
    (left : List LaneJob) (note : ℕ) : Type 0 where
  -- The close number is how many jobs were accepted, and none was accepted after the close.
  pub counted : note ≡ length lane.accepted
  -- The accepted jobs have the numbers 0, 1, 2 and so on.
  pub seqs : AreSeqs 0 lane.accepted
  -- Each accepted job was taken once or is left, with its payload and its dimension. For however
  -- the jobs are weighed, they weigh what was taken and what is left.
  pub balance : (weight : LaneJob → ℕ)
      → total weight lane.accepted
      ≡ total (λ w. total weight (take_of lane.number w).taken) workers + total weight left
  -- What a worker took, followed by what is left, is in the lane's order.
  pub rises : Each (λ w. Rises ((take_of lane.number w).taken ++ left)) workers
  -- What is left are the last accepted jobs, in order.
  pub left_last : AreSeqs (note - length left) left
  -- Where a worker found that the lane had ended, all accepted jobs were taken: none is left.
  pub ended : Each
      (λ w. Each (λ x. x.closed ≡ true → (x.count ≡ note) × (left ≡ [])) (take_of lane.number w).empties) workers
  -- Where the producer found the closed mark, it found the close number beside it.
  pub refused : Each (λ n. n ≡ note) lane.refused
  -- There is one legal history of atomic steps, of which each record is a part.
  pub history : List Deed
  pub legal : IsLegal sizes lane.number history
  pub lane_is : lane ≡ lane_part sizes.capacity lane.number history
  pub each_worker : Each (λ w. take_of lane.number w ≡ take_part history w.number) workers
  pub closed : closed_at history ≡ Some note
  pub taken_is : taken history + length left ≡ count history

-- The jobs of this lane in a list of jobs with their lanes.
abbrev pub jobs_in : ℕ → List (ℕ × LaneJob) → List LaneJob
jobs_in lane [] = []
jobs_in lane (x ∷ xs) = cond (x.0 == lane) (x.1 ∷ jobs_in lane xs) (jobs_in lane xs)

-- The jobs of each lane below this number, with their lane, in the order of the lanes.
abbrev pub in_lanes : (ℕ → List LaneJob) → ℕ → List (ℕ × LaneJob)
in_lanes jobs zero = []
in_lanes jobs (suc n) = in_lanes jobs n ++ map (λ j. (n, j)) (jobs n)

-- The records of all lanes and of all workers, the jobs that are left with their lanes, and the
-- close number of each lane.
pub record WholeLanes (sizes : Sizes) (lanes : List LaneRecord) (workers : List WorkerRecord)
    (left : List (ℕ × LaneJob)) (counts : List ℕ) : Type 0 where
  -- Each lane is whole.
  pub each : Each
      (λ r. WholeLane sizes r workers (jobs_in r.number left) (slice_index counts r.number)) lanes
  -- Each lane and each worker is there once.
  pub all_lanes : (k : ℕ) → k < sizes.lanes → total (λ r. is_at k r.number) lanes ≡ 1
  pub all_workers : (k : ℕ) → k < sizes.workers → total (λ w. is_at k w.number) workers ≡ 1
  -- The jobs that are left are in the order of the lanes.
  pub order : left ≡ in_lanes (λ l. jobs_in l left) sizes.lanes
