-- How far a round of all lanes has come.
use Rattle.std.specs.Prelude.{◌≡◌, ℕ, ◌+◌, ◌<◌, ◌≤◌, ◌⊎◌, Bool, true, false, cond, nat_lt, length}
use Rattle.lanes.specs.declared.takes.Taken.TheVariants.{Empty, Lost, Ended}
use Rattle.lanes.specs.declared.record.TakeRecord.{TakeRecord}
use Rattle.lanes.specs.declared.record.WorkerRecord.{WorkerRecord}
use Rattle.lanes.specs.Record.{take_of}
use Rattle.lanes.specs.Lanes.{Takes, Passes, distance, call_steps}

-- the lane after this one, in a round
abbrev pub next_lane : ℕ → ℕ → ℕ
next_lane lanes lane = cond (nat_lt (lane + 1) lanes) (lane + 1) 0

-- a take that got no job, and whether all lanes so far had ended
abbrev pub Passing : Bool → Bool → TakeRecord → TakeRecord → Type 0
Passing before after old new =
    ((after ≡ before) × Takes old Ended new)
    ⊎ ((after ≡ false) × (Takes old Empty new ⊎ Takes old Lost new))

-- the worker has visited this number of lanes, and got no job
pub record Round (lanes from turn : ℕ) (all_ended : Bool) (old now : WorkerRecord) : Type 0 where
  pub number : now.number ≡ old.number
  pub plan : now.plan ≡ old.plan
  pub long : length now.lanes ≡ length old.lanes
  pub steps : (k : ℕ) → k < lanes → (take_of k now).steps ≤ (take_of k old).steps + call_steps
  pub passed : (k : ℕ)
      → k < lanes
      → distance lanes from k < turn
      → Passes (take_of k old) (take_of k now)
  pub ended : all_ended ≡ true
      → (k : ℕ)
      → k < lanes
      → distance lanes from k < turn
      → Takes (take_of k old) Ended (take_of k now)
  pub other : all_ended ≡ false
      → (k : ℕ) × (k < lanes) × (distance lanes from k < turn)
      × (Takes (take_of k old) Empty (take_of k now) ⊎ Takes (take_of k old) Lost (take_of k now))
  pub rest : (k : ℕ) → k < lanes → turn ≤ distance lanes from k → take_of k now ≡ take_of k old
