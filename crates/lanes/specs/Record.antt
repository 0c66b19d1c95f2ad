-- The records of producers and workers, and what each step makes of them.
use Rattle.std.specs.Prelude.{◌≡◌, ℕ, ◌+◌, ◌<◌, Bool, Some, None, List, [], ◌∷◌, ◌++◌, length, slice_index_or, slice_set}
use Rattle.std.specs.List.{AllByRecursion as Each}
use Rattle.ghost_history.specs.Lists.{numbered_from}
use Rattle.lanes.specs.declared.sizes.Plan.{Plan}
use Rattle.lanes.specs.declared.record.LaneJob.{LaneJob}
use Rattle.lanes.specs.declared.record.LaneRecord.{LaneRecord}
use Rattle.lanes.specs.declared.record.Sight.{Sight}
use Rattle.lanes.specs.declared.record.TakeRecord.{TakeRecord}
use Rattle.lanes.specs.declared.record.WorkerRecord.{WorkerRecord}

-- The job with this number, payload and dimension.
abbrev pub job : ℕ → ℕ → ℕ → LaneJob
job seq payload dim = record { seq = seq; payload = payload; dim = dim }

-- What a worker found where it found no job.
abbrev pub sight : ℕ → Bool → Sight
sight count closed = record { count = count; closed = closed }

-- The record of a producer that has made no step.
abbrev pub fresh_lane : ℕ → ℕ → LaneRecord
fresh_lane capacity number = record {
  number = number;
  capacity = capacity;
  accepted = [];
  seen = 0;
  payload = None;
  dim = None;
  fulls = [];
  refused = [];
  steps = 0;
}

-- The record of a worker in a lane where it has made no step.
abbrev pub fresh_take : TakeRecord
fresh_take = record {
  taken = [];
  head = 0;
  tail = 0;
  payload = None;
  dim = None;
  empties = [];
  lost = [];
  steps = 0;
}

-- The record of a worker that has made no step.
abbrev pub fresh_worker : Plan → ℕ → WorkerRecord
fresh_worker plan number = record {
  number = number;
  plan = plan;
  lanes = numbered_from (λ _. fresh_take) 0 plan.sizes.lanes;
}

-- What a worker did in this lane.
abbrev pub take_of : ℕ → WorkerRecord → TakeRecord
take_of lane worker = slice_index_or worker.lanes lane fresh_take

-- The record of a worker with this record of the lane.
abbrev pub with_take : ℕ → TakeRecord → WorkerRecord → WorkerRecord
with_take lane take worker = record worker { lanes = slice_set worker.lanes lane take }

-- The jobs have the numbers from this one on, in order.
abbrev pub AreSeqs : ℕ → List LaneJob → Type 0
AreSeqs seq [] = Unit {0}
AreSeqs seq (j ∷ jobs) = (j.seq ≡ seq) × AreSeqs (seq + 1) jobs

-- The jobs are in the order in which they were accepted.
abbrev pub Rises : List LaneJob → Type 0
Rises [] = Unit {0}
Rises (j ∷ jobs) = Each (λ later. j.seq < later.seq) jobs × Rises jobs

-- ---- what a step makes of the record of a producer

-- It read the count of accepted jobs, with no mark.
abbrev pub after_count : LaneRecord → LaneRecord
after_count lane = record lane { steps = lane.steps + 1 }

-- It found the lane full, when this number of jobs was taken.
abbrev pub after_full : ℕ → LaneRecord → LaneRecord
after_full taken lane = record lane { fulls = lane.fulls ++ taken ∷ []; steps = lane.steps + 1 }

-- It found room.
abbrev pub after_room : ℕ → LaneRecord → LaneRecord
after_room taken lane = record lane { seen = taken; steps = lane.steps + 1 }

-- It put the payload in the cell of its next job.
abbrev pub after_payload : ℕ → LaneRecord → LaneRecord
after_payload payload lane = record lane { payload = Some payload; steps = lane.steps + 1 }

-- It put the dimension in the cell of its next job.
abbrev pub after_dim : ℕ → LaneRecord → LaneRecord
after_dim dim lane = record lane { dim = Some dim; steps = lane.steps + 1 }

-- That job was accepted.
abbrev pub after_accept : ℕ → ℕ → LaneRecord → LaneRecord
after_accept payload dim lane = record lane {
  accepted = lane.accepted ++ job (length lane.accepted) payload dim ∷ [];
  payload = None;
  dim = None;
  steps = lane.steps + 1;
}

-- It found the closed mark beside this count.
abbrev pub after_refusal : ℕ → LaneRecord → LaneRecord
after_refusal count lane = record lane {
  payload = None;
  dim = None;
  refused = lane.refused ++ count ∷ [];
  steps = lane.steps + 1;
}

-- ---- what a step makes of the record of a worker in a lane

-- It read how many jobs were taken.
abbrev pub after_head : ℕ → TakeRecord → TakeRecord
after_head taken take = record take {
  head = taken;
  payload = None;
  dim = None;
  steps = take.steps + 1;
}

-- It then found as many accepted.
abbrev pub after_empty : ℕ → Bool → TakeRecord → TakeRecord
after_empty count closed take = record take {
  empties = take.empties ++ sight count closed ∷ [];
  steps = take.steps + 1;
}

-- It then found more accepted.
abbrev pub after_tail : ℕ → TakeRecord → TakeRecord
after_tail count take = record take {
  tail = count;
  payload = None;
  dim = None;
  steps = take.steps + 1;
}

-- It then read the cell for the payload.
abbrev pub after_cell : ℕ → TakeRecord → TakeRecord
after_cell payload take = record take { payload = Some payload; steps = take.steps + 1 }

-- It then read the cell for the dimension.
abbrev pub after_dim_cell : ℕ → TakeRecord → TakeRecord
after_dim_cell dim take = record take { dim = Some dim; steps = take.steps + 1 }

-- It took the job.
abbrev pub after_take : ℕ → ℕ → TakeRecord → TakeRecord
after_take payload dim take = record take {
  taken = take.taken ++ job take.head payload dim ∷ [];
  payload = None;
  dim = None;
  steps = take.steps + 1;
}

-- Another worker had taken the job.
abbrev pub after_loss : TakeRecord → TakeRecord
after_loss take = record take {
  payload = None;
  dim = None;
  lost = take.lost ++ take.head ∷ [];
  steps = take.steps + 1;
}
