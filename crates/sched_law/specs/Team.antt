-- A scheduler with workers: its state, what a call does to it, and when it may.
use Rattle.std.specs.Prelude.{◌≡◌, ℕ, ◌<◌, Bool, true, false, List, [], ◌∷◌, Some, None}
use Rattle.cube_shape.specs.declared.region.Region.{Region}
use Rattle.cube_shape.specs.Region.{IsAligned}
use Rattle.ghost_history.specs.History.{Legal}
use Rattle.sched_law.specs.declared.job.SchedJob.{SchedJob}
use Rattle.sched_law.specs.declared.job.SchedWait.{SchedWait}
use Rattle.sched_law.specs.State.{Sched, IsVacant, Waits, at, cancel, finish, initial, occupy, set, submit, vacate}
use Rattle.sched_law.specs.Policy.{Decides}
use Rattle.sched_law.specs.Law.{IsSound}

-- What a worker does.
pub data Does : Type 0 where
  -- it has no job, and waits for none
  away : Does
  -- it waits for a job
  waits : Does
  -- it has this job
  has : ℕ → Does

-- The scheduler, what each worker does, and whether jobs may still be submitted.
pub record Team : Type 0 where
  pub sched : Sched
  pub does : ℕ → Does
  pub closed : Bool

-- What a call did.
pub data Deed : Type 0 where
  -- a job came; it has the next number
  submits : SchedJob → Deed
  -- a waiting job was removed
  cancels : ℕ → Deed
  -- a block went out of service, or came back
  occupies : Region → Deed
  vacates : Region → Deed
  -- a worker waits from now on, or no longer
  asks : ℕ → Deed
  leaves : ℕ → Deed
  -- the job of a worker is over
  ends : ℕ → Deed
  -- at a time, a worker gets a job; the scheduler's state after that
  starts : ℕ → ℕ → ℕ → Sched → Deed
  -- at a time, no job may start; the scheduler's state after that
  settles : ℕ → Sched → Deed
  -- no more jobs may come
  closes : Deed

-- The job of a worker is over, if it has one.
abbrev pub end_of : Team → ℕ → Does → Team
end_of t u away = t
end_of t u waits = t
end_of t u (has j) = record t { sched = finish j t.sched; does = set t.does u away }

-- The state after a deed.
abbrev pub after : Team → Deed → Team
after t (submits job) = record t { sched = submit job t.sched }
after t (cancels j) = record t { sched = cancel j t.sched }
after t (occupies r) = record t { sched = occupy r t.sched }
after t (vacates r) = record t { sched = vacate r t.sched }
after t (asks u) = record t { does = set t.does u waits }
after t (leaves u) = record t { does = set t.does u away }
after t (ends u) = end_of t u (t.does u)
after t (starts now u j v) = record t { sched = v; does = set t.does u (has j) }
after t (settles now v) = record t { sched = v }
after t closes = record t { closed = true }

-- The deed is allowed in a state, of a team with this number of workers. The first worker that
-- waits gets the job that starts.
abbrev pub May : ℕ → Team → Deed → Type 0
May workers t (submits job) = (t.closed ≡ false) × IsSound t.sched.dim job
May workers t (cancels j) = (wait : SchedWait) × Waits t.sched j wait
May workers t (occupies r) = IsAligned t.sched.dim r × IsVacant t.sched r
May workers t (vacates r) = t.sched.occupied r.base ≡ Some r
May workers t (asks u) = (u < workers) × (t.does u ≡ away)
May workers t (leaves u) = t.does u ≡ waits
May workers t (ends u) = (j : ℕ) × (t.does u ≡ has j)
May workers t (starts now u j v) =
    (t.does u ≡ waits) × ((i : ℕ) → i < u → t.does i ≡ waits → ⊥)
    × Decides (at now t.sched) (Some j) v
May workers t (settles now v) = Decides (at now t.sched) None v
May workers t closes = t.closed ≡ false

-- The state at the beginning: no job, and all workers are away.
abbrev pub opened : ℕ → ℕ → Team
opened dim patience =
    record { sched = initial dim patience; does = λ u. away; closed = false }

-- The state after a history, the newest deed first.
abbrev pub team_of : ℕ → ℕ → List Deed → Team
team_of dim patience [] = opened dim patience
team_of dim patience (deed ∷ history) = after (team_of dim patience history) deed

-- The history may have happened.
abbrev pub IsHistory : ℕ → ℕ → ℕ → List Deed → Type 0
IsHistory dim patience workers = Legal (λ history. May workers (team_of dim patience history))
