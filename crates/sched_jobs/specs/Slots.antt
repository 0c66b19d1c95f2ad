-- What is in the slots of a table.
use Rattle.std.specs.Prelude.{ℕ, ◌+◌, ◌-◌, ◌*◌, ◌==◌, if◌then◌else◌, List, Option, Some, None, slice_index_or}
use Rattle.cube_shape.specs.declared.limits.TheConstants.{MAX_BITMAP_DIM}
use Rattle.sched_law.specs.declared.job.TheConstants.{NEVER}
use Rattle.sched_law.specs.declared.job.Place.{Place}
use Rattle.sched_law.specs.declared.job.Place.TheVariants.{Absent, Waiting, Running}
use Rattle.sched_jobs.specs.declared.slots.Slot.{Slot}
use Rattle.sched_jobs.specs.declared.slots.Phase.{Phase}
use Rattle.sched_jobs.specs.declared.slots.Phase.TheVariants.{Free, Queued, Started}

-- A slot before its first use.
abbrev pub unused : Slot
unused = record {
  generation = 0;
  job = record { payload = 0; processors = 0; dim = 0; class = 0; estimate = 0 };
  first = 0;
  end = 0;
  block_dim = 0;
  phase = Free;
}

-- Where the job of a slot is, by its phase.
abbrev pub place_by : Slot → Phase → Place
place_by slot Free = Absent
place_by slot Queued = Waiting (record { job = slot.job; passed = slot.first })
place_by slot Started = Running (record {
  job = slot.job;
  block = record { base = slot.first; dim = slot.block_dim };
  end = slot.end;
})

-- A slot. Past the end of a table there are only free ones.
abbrev pub slot_in : List Slot → ℕ → Slot
slot_in slots u = slice_index_or slots u unused

-- Where the job of a slot is.
abbrev pub place_in : List Slot → ℕ → Place
place_in slots u = place_by (slot_in slots u) (slot_in slots u).phase

-- How many jobs a slot has had.
abbrev pub generation_in : List Slot → ℕ → ℕ
generation_in slots u = (slot_in slots u).generation

-- The free slot after a free one: the next slot, if the link is 0, else one less than the link.
abbrev pub next_after : ℕ → ℕ → ℕ
next_after u link = if link == 0 then u + 1 else link - 1

-- The free slot before a free one: the slot before, if the back link is 0, else one less than it.
abbrev pub before_of : ℕ → ℕ → ℕ
before_of u back = if back == 0 then u - 1 else back - 1

-- The job is not over.
abbrev pub IsPresent : Place → Type 0
IsPresent Absent = ⊥
IsPresent (Waiting wait) = Unit {0}
IsPresent (Running run) = Unit {0}

-- The line of a class and a dimension.
abbrev pub line_at : ℕ → ℕ → ℕ
line_at class dim = class * (MAX_BITMAP_DIM + 1) + dim

-- The line of a job: that of its class and its dimension, if it waits.
abbrev pub line_of : Place → Option ℕ
line_of Absent = None
line_of (Waiting wait) = Some (line_at wait.job.class wait.job.dim)
line_of (Running run) = None

-- The rank of an estimate: one less, or the largest number if it is not known.
abbrev pub rank_of : ℕ → ℕ
rank_of estimate = if estimate == 0 then NEVER else estimate - 1
