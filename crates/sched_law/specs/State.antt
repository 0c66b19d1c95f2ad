-- The state of a scheduler, and what a call does to it.
use Rattle.std.specs.Prelude.{◌≡◌, ℕ, ◌+◌, ◌^◌, ◌==◌, min, nat_lt, ◌&&◌, if◌then◌else◌, Bool, Option, Some, None}
use Rattle.cube_shape.specs.declared.region.Region.{Region}
use Rattle.cube_shape.specs.Machine.{Holdings, IsFree}
use Rattle.sched_law.specs.declared.job.TheConstants.{NEVER}
use Rattle.sched_law.specs.declared.job.SchedJob.{SchedJob}
use Rattle.sched_law.specs.declared.job.SchedWait.{SchedWait}
use Rattle.sched_law.specs.declared.job.SchedRun.{SchedRun}
use Rattle.sched_law.specs.declared.job.Place.{Place}
use Rattle.sched_law.specs.declared.job.Place.TheVariants.{Absent, Waiting, Running}
use Rattle.sched_law.specs.declared.job.Reservation.{Reservation}

-- Jobs are numbered in the order of their arrival. `place` says where each one is. So a job is in
-- one place, by definition.
pub record Sched : Type 0 where
  -- the dimension of the machine
  pub dim : ℕ
  -- how many times the machine passes a job before a block without a known promise is reserved
  pub patience : ℕ
  -- the time of the last decision
  pub now : ℕ
  -- how many jobs were submitted: the number of the next one
  pub next : ℕ
  pub place : ℕ → Place
  -- the block that is out of service and begins at a base, if there is one
  pub occupied : Holdings
  pub reserved : Option Reservation

-- The function with another value at one place.
abbrev pub set : {A : Type 0} → (ℕ → A) → ℕ → A → ℕ → A
set f u x t = if t == u then x else f t

-- The block that a job holds: only a running job holds one.
abbrev pub block_of : Place → Option Region
block_of (Running run) = Some run.block
block_of _ = None

-- Which block each job holds.
abbrev pub held : Sched → Holdings
held w j = block_of (w.place j)

-- Job `j` waits.
abbrev pub Waits : Sched → ℕ → SchedWait → Type 0
Waits w j wait = w.place j ≡ Waiting wait

-- Job `j` runs.
abbrev pub Runs : Sched → ℕ → SchedRun → Type 0
Runs w j run = w.place j ≡ Running run

-- No part of the block is out of service.
abbrev pub IsUsable : Sched → Region → Type 0
IsUsable w r = IsFree w.occupied r

-- No part of the block is held or out of service.
abbrev pub IsVacant : Sched → Region → Type 0
IsVacant w r = IsFree (held w) r × IsUsable w r

-- The estimated end of a job with this estimate that starts at `t`.
abbrev pub end_after : ℕ → ℕ → ℕ
end_after t estimate = if estimate == 0 then NEVER else min (t + estimate) NEVER

-- Whether two blocks have a processor in common.
abbrev pub overlaps : Region → Region → Bool
overlaps a b = nat_lt a.base (b.base + 2 ^ b.dim) && nat_lt b.base (a.base + 2 ^ a.dim)

-- The reservation, if it is not that of this job.
abbrev pub without : ℕ → Option Reservation → Option Reservation
without j None = None
without j (Some reserved) = if reserved.job == j then None else Some reserved

-- The reservation, if its block has no part of this one.
abbrev pub beside : Region → Option Reservation → Option Reservation
beside r None = None
beside r (Some reserved) = if overlaps r reserved.block then None else Some reserved

-- ---- decisions

-- The time is `t`.
abbrev pub at : ℕ → Sched → Sched
at t w = record w { now = t }

-- The job runs in this block from now on. If a block was reserved for it, it is so no more.
abbrev pub start : ℕ → SchedJob → Region → Sched → Sched
start j job r w = record w {
  place = set w.place j
      (Running (record { job = job; block = r; end = end_after w.now job.estimate }));
  reserved = without j w.reserved;
}

-- A job that gets a block of dimension `k` passes the head.
abbrev pub pass : ℕ → SchedWait → ℕ → Sched → Sched
pass h head k w = record w {
  place = set w.place h
      (Waiting (record { job = head.job; passed = min (head.passed + 2 ^ k) NEVER }));
}

-- The block is reserved for the job.
abbrev pub reserve : ℕ → Region → Sched → Sched
reserve j r w = record w { reserved = Some (record { job = j; block = r }) }

-- ---- other calls

-- The job waits from now on.
abbrev pub submit : SchedJob → Sched → Sched
submit job w = record w {
  next = w.next + 1;
  place = set w.place w.next (Waiting (record { job = job; passed = 0 }));
}

-- A job that waited is over. So is its reservation.
abbrev pub cancel : ℕ → Sched → Sched
cancel j w = record w { place = set w.place j Absent; reserved = without j w.reserved }

-- A job that ran is over.
abbrev pub finish : ℕ → Sched → Sched
finish j w = record w { place = set w.place j Absent }

-- The block is out of service. A reservation of a part of it ends.
abbrev pub occupy : Region → Sched → Sched
occupy r w = record w {
  occupied = set w.occupied r.base (Some r);
  reserved = beside r w.reserved;
}

-- The block is in service again.
abbrev pub vacate : Region → Sched → Sched
vacate r w = record w { occupied = set w.occupied r.base None }

-- No job was submitted.
abbrev pub initial : ℕ → ℕ → Sched
initial dim patience = record {
  dim = dim;
  patience = patience;
  now = 0;
  next = 0;
  place = λ j. Absent;
  occupied = λ base. None;
  reserved = None;
}
