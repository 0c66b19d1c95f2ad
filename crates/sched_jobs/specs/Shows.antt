-- When a table has the jobs of a state of the scheduler.
use Rattle.std.specs.Prelude.{◌≡◌, ◌≢◌, ℕ, ◌+◌, ◌*◌, ◌<◌, ◌≤◌, ◌⊎◌, List, [], ◌∷◌, Option, length}
use Rattle.cube_shape.specs.declared.limits.TheConstants.{MAX_BITMAP_DIM}
use Rattle.sched_law.specs.declared.job.Place.{Place}
use Rattle.sched_law.specs.declared.job.Place.TheVariants.{Absent, Waiting}
use Rattle.sched_law.specs.State.{Sched, Waits}
use Rattle.sched_law.specs.Policy.{Precedes}
use Rattle.sched_law.specs.declared.job.SchedWait.{SchedWait}
use Rattle.sched_jobs.specs.declared.nodes.TheConstants.{MAX_SLOTS}
use Rattle.sched_jobs.specs.declared.nodes.QueueNode.{QueueNode as NodeData}
use Rattle.sched_jobs.specs.Nodes.{estimate_of, key_of}
use Rattle.sched_jobs.specs.declared.lines.TheConstants.{CLASSES}
use Rattle.sched_jobs.specs.declared.slots.TheConstants.{MAX_GENERATION}
use Rattle.sched_jobs.specs.declared.slots.Slot.{Slot}
use Rattle.sched_jobs.specs.declared.line_table.LineTable.{LineTable}
use Rattle.sched_jobs.specs.declared.jobs.Jobs.{Jobs}
use Rattle.sched_jobs.specs.Lines.{HasLines, key_in, rank_in, slots_of, table_words}
use Rattle.sched_jobs.specs.Select.{IsWanted}
use Rattle.sched_jobs.specs.Sums.{ShowsRunning}
use Rattle.sched_jobs.specs.Slots.{IsPresent, before_of, generation_in, line_of, next_after, place_in, rank_of}

-- How many jobs a table may have.
abbrev pub capacity_of : Jobs → ℕ
capacity_of jobs = length jobs.slots.items

-- Where the job of a slot is.
abbrev pub place_of : Jobs → ℕ → Place
place_of jobs u = place_in jobs.slots.items u

-- The number of a slot's job.
abbrev pub arrival_of : Jobs → ℕ → ℕ
arrival_of jobs u = key_in jobs.lines u

-- How many jobs a slot has had.
abbrev pub generation_of : Jobs → ℕ → ℕ
generation_of jobs u = generation_in jobs.slots.items u

-- The ticket of a slot's job: from it one gets both its generation and its slot.
abbrev pub ticket_of : Jobs → ℕ → ℕ
ticket_of jobs u = generation_of jobs u * MAX_SLOTS + u

-- A slot has a job that is not over.
abbrev pub HasJob : Jobs → ℕ → Type 0
HasJob jobs u = IsPresent (place_of jobs u)

-- A slot has had as many jobs as it may have, and these are over.
abbrev pub IsRetired : Jobs → ℕ → Type 0
IsRetired jobs u = (place_of jobs u ≡ Absent) × (generation_of jobs u ≡ MAX_GENERATION)

-- The other slots have the same jobs at the same places.
abbrev pub HasOthers : Jobs → Jobs → ℕ → Type 0
HasOthers old new slot =
    (u : ℕ) → u ≢ slot → (place_of new u ≡ place_of old u) × (arrival_of new u ≡ arrival_of old u)

-- The other slots have the same jobs at the same places. What a free slot has as number may change.
abbrev pub HasOtherJobs : Jobs → Jobs → ℕ → Type 0
HasOtherJobs old new slot =
    (u : ℕ) → u ≢ slot → (place_of new u ≡ place_of old u)
    × (HasJob old u → arrival_of new u ≡ arrival_of old u)

-- Each slot has had as many jobs as before.
abbrev pub HasGenerations : Jobs → Jobs → Type 0
HasGenerations old new = (u : ℕ) → generation_of new u ≡ generation_of old u

-- A slot is one of a list.
abbrev pub IsIn : ℕ → List ℕ → Type 0
IsIn u [] = ⊥
IsIn u (first ∷ rest) = (u ≡ first) ⊎ IsIn u rest

-- The first of these slots, if there is one, is linked back to another.
abbrev pub HasBack : List NodeData → ℕ → List ℕ → Type 0
HasBack nodes u [] = Unit {0}
HasBack nodes u (v ∷ rest) = before_of v (estimate_of nodes v) ≡ u

-- Free slots from `first` on are these, each once, and each is linked back to the one before. The
-- last one is followed by the number of slots. None is retired.
abbrev pub AreFree : List Slot → List NodeData → ℕ → List ℕ → Type 0
AreFree slots nodes first [] = first ≡ length slots
AreFree slots nodes first (u ∷ rest) =
    (first ≡ u) × (u < length slots) × (place_in slots u ≡ Absent)
    × (generation_in slots u < MAX_GENERATION) × (IsIn u rest → ⊥)
    × AreFree slots nodes (next_after u (key_of nodes u)) rest × HasBack nodes u rest

-- Each job that is not over has one slot, with its place, and its number is the key. All other
-- slots are free or retired.
pub record ShowsSlots (place : ℕ → Place) (next first : ℕ) (slots : List Slot) (nodes : List NodeData) : Type 0 where
  pub limit : length slots ≤ MAX_SLOTS
  pub generations : (u : ℕ) → generation_in slots u ≤ MAX_GENERATION
  pub used : (u : ℕ) → IsPresent (place_in slots u) → 0 < generation_in slots u
  pub holds : (u : ℕ) → IsPresent (place_in slots u) → place (key_of nodes u) ≡ place_in slots u
  pub before : (u : ℕ) → IsPresent (place_in slots u) → key_of nodes u < next
  pub slot : (a : ℕ) → IsPresent (place a)
      → (u : ℕ) × IsPresent (place_in slots u) × (key_of nodes u ≡ a)
  pub once : (u v : ℕ) → IsPresent (place_in slots u) → IsPresent (place_in slots v)
      → key_of nodes u ≡ key_of nodes v → u ≡ v
  pub list : List ℕ
  pub free : AreFree slots nodes first list
  pub all : (u : ℕ) → u < length slots → place_in slots u ≡ Absent
      → IsIn u list ⊎ (generation_in slots u ≡ MAX_GENERATION)

-- The queues have the waiting jobs, each in the line of its class and dimension, by the rank of its
-- estimate.
pub record ShowsWaiting (slots : List Slot) (lines : LineTable) : Type 0 where
  pub shown : HasLines lines (λ u. line_of (place_in slots u))
  pub count : slots_of lines ≡ length slots
  pub rank : (u : ℕ) (wait : SchedWait) → place_in slots u ≡ Waiting wait
      → rank_in lines u ≡ rank_of wait.job.estimate
  pub class : (u : ℕ) (wait : SchedWait) → place_in slots u ≡ Waiting wait → wait.job.class < CLASSES
  pub dim : (u : ℕ) (wait : SchedWait) → place_in slots u ≡ Waiting wait → wait.job.dim ≤ MAX_BITMAP_DIM

-- The table has the jobs of the state. Its reservation and its blocks out of service do not matter.
abbrev pub ShowsJobs : Sched → Jobs → Type 0
ShowsJobs w jobs =
    (w.next ≡ jobs.next)
    × ShowsSlots w.place jobs.next jobs.free jobs.slots.items jobs.lines.nodes.items
    × ShowsWaiting jobs.slots.items jobs.lines
    × ShowsRunning w.place jobs.next jobs.slots.items jobs.running jobs.asked jobs.timed

-- A slot has a waiting job that is wanted, and no job that is wanted comes before it.
pub record IsFirstWaiting (any most : Option ℕ) (limit : ℕ) (w : Sched) (jobs : Jobs) (slot : ℕ) : Type 0 where
  pub inside : slot < capacity_of jobs
  pub wait : SchedWait
  pub at : place_of jobs slot ≡ Waiting wait
  pub waits : Waits w (arrival_of jobs slot) wait
  pub wanted : IsWanted any most limit wait.job
  pub first : (i : ℕ) (other : SchedWait) → Waits w i other → IsWanted any most limit other.job
      → Precedes i other.job (arrival_of jobs slot) wait.job → ⊥

-- No waiting job is wanted.
abbrev pub HasNoneWaiting : Option ℕ → Option ℕ → ℕ → Sched → Type 0
HasNoneWaiting any most limit w =
    (i : ℕ) (other : SchedWait) → Waits w i other → IsWanted any most limit other.job → ⊥

-- How many words of 8 bytes a table for this many jobs takes.
abbrev pub job_words : ℕ → ℕ
job_words capacity = 7 * capacity + table_words capacity
