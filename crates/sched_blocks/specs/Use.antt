-- The blocks in use in a state of the scheduler, and trees that are right for them.
use Rattle.std.specs.Prelude.{◌≡◌, ◌≢◌, ℕ, ◌↔◌, ◌⊎◌, List, Bool, true, false, Some}
use Rattle.cube_shape.specs.declared.region.Region.{Region}
use Rattle.cube_shape.specs.Machine.{Holdings}
use Rattle.cube_shape.specs.Node.{IsInCube, IsNodeOf, OnPath}
use Rattle.sched_law.specs.declared.job.SchedRun.{SchedRun}
use Rattle.sched_law.specs.State.{Sched, Runs, held}
use Rattle.sched_law.specs.Law.{IsSafe}
use Rattle.sched_blocks.specs.Ends.{AreEnds}
use Rattle.sched_blocks.specs.Busy.{AreBusy}

-- A station holds this very block.
abbrev pub HasBlock : Holdings → Region → Type 0
HasBlock held r = (s : ℕ) × (held s ≡ Some r)

-- A job holds this very block, or it is out of service as one block.
abbrev pub IsInUse : Sched → Region → Type 0
IsInUse w r = HasBlock (held w) r ⊎ HasBlock w.occupied r

-- The own end of a node is that of the job that runs in its block. It is 0 if none does.
pub record AreOwnEnds (w : Sched) (own : ℕ → ℕ) : Type 0 where
  pub runs : (v j : ℕ) (run : SchedRun) → Runs w j run → IsNodeOf w.dim v run.block
      → own v ≡ run.end
  pub none : (v : ℕ) → IsInCube w.dim v
      → (own v ≡ 0) ⊎ ((j : ℕ) × (run : SchedRun) × Runs w j run × IsNodeOf w.dim v run.block)

-- A node is in use exactly if its block is.
pub record AreUsed (w : Sched) (used : ℕ → Bool) : Type 0 where
  pub each : (v : ℕ) (r : Region) → IsNodeOf w.dim v r → (used v ≡ true) ↔ IsInUse w r

-- No node above this one is in use.
abbrev pub HasNoneAbove : (ℕ → Bool) → ℕ → Type 0
HasNoneAbove used v = (u : ℕ) → OnPath u v → u ≢ v → used u ≡ false

-- The state is safe, and the two trees are right for its blocks in use.
pub record Tracks (w : Sched) (own : ℕ → ℕ) (used : ℕ → Bool) (ends busy : List ℕ) : Type 0 where
  pub safe : IsSafe w
  pub owns : AreOwnEnds w own
  pub uses : AreUsed w used
  pub latest : AreEnds w.dim own ends
  pub counted : AreBusy w.dim used busy
