-- How far a worker has looked at all lanes.
use Rattle.std.specs.Prelude.{◌≡◌, ℕ, ◌<◌, ◌≤◌, length}
use Rattle.lanes.specs.declared.record.WorkerRecord.{WorkerRecord}
use Rattle.lanes.specs.Record.{take_of}
use Rattle.lanes.specs.Lanes.{TakesNothing, look_steps}

-- it has looked at the lanes below this one
pub record LooksTo (lanes lane : ℕ) (old now : WorkerRecord) : Type 0 where
  pub number : now.number ≡ old.number
  pub plan : now.plan ≡ old.plan
  pub long : length now.lanes ≡ length old.lanes
  pub seen : (k : ℕ)
      → k < lanes
      → k < lane
      → TakesNothing look_steps (take_of k old) (take_of k now)
  pub rest : (k : ℕ) → k < lanes → lane ≤ k → take_of k now ≡ take_of k old
