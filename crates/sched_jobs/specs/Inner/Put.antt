-- A write of one slot, a change of its key, and a link between free slots.
use Rattle.std.specs.Prelude.{◌≡◌, ◌≢◌, ℕ, ◌+◌, ◌<◌, List, length}
use Rattle.sched_law.specs.declared.job.Place.{Place}
use Rattle.sched_law.specs.declared.job.Place.TheVariants.{Absent, Waiting, Running}
use Rattle.sched_jobs.specs.declared.nodes.QueueNode.{QueueNode as NodeData}
use Rattle.sched_jobs.specs.Nodes.{estimate_of, key_of}
use Rattle.sched_jobs.specs.declared.slots.Slot.{Slot}
use Rattle.sched_jobs.specs.declared.slots.Phase.TheVariants.{Queued, Started}
use Rattle.sched_jobs.specs.Slots.{slot_in, unused}

-- A slot with a job at a place.
abbrev pub slot_for : ℕ → Place → Slot
slot_for generation Absent = record unused { generation = generation }
slot_for generation (Waiting wait) = record {
  generation = generation;
  job = wait.job;
  first = wait.passed;
  end = 0;
  block_dim = 0;
  phase = Queued;
}
slot_for generation (Running run) = record {
  generation = generation;
  job = run.job;
  first = run.block.base;
  end = run.end;
  block_dim = run.block.dim;
  phase = Started;
}

-- One slot has these parts, and the others are as they were.
pub record HasPut (old new : List Slot) (at generation : ℕ) (place : Place) : Type 0 where
  pub len : length new ≡ length old
  pub here : slot_in new at ≡ slot_for generation place
  pub others : (u : ℕ) → u ≢ at → slot_in new u ≡ slot_in old u

-- One slot has this key, and the others have the keys that they had.
pub record HasKey (before after : List NodeData) (at key : ℕ) : Type 0 where
  pub here : key_of after at ≡ key
  pub others : (u : ℕ) → u ≢ at → key_of after u ≡ key_of before u

-- A slot is linked to the next one, and this one, if it is one of the table, back to it. All other
-- links are as they were.
pub record HasLink (before after : List NodeData) (at next : ℕ) : Type 0 where
  pub len : length after ≡ length before
  pub here : key_of after at ≡ next + 1
  pub others : (u : ℕ) → u ≢ at → key_of after u ≡ key_of before u
  pub back : next < length before → estimate_of after next ≡ at + 1
  pub backs : (u : ℕ) → u ≢ next → estimate_of after u ≡ estimate_of before u
