-- Which block each station holds, and the step of the machine that an act is.
use Rattle.std.specs.Prelude.{◌≡◌, ℕ, zero, suc, ◌-◌, ◌^◌, ◌==◌, ◌⊎◌, if◌then◌else◌, Option, Some, None}
use Rattle.cube_shape.specs.declared.region.Region.{Region}
use Rattle.cube_shape.specs.Region.{block}
use Rattle.cube_shape.specs.Node.{parent_of}
use Rattle.cube_shape.specs.Machine.{Holdings, Gives, TakesBack}
use Rattle.cube_core.specs.Phase.{node_held}
use Rattle.cube_core.specs.Schedule.{State, phase_of}

-- The dimension of the block of a node: that of the machine at the root, and one less at each
-- level.
abbrev pub dim_at : ℕ → ℕ → ℕ
dim_at zero v = 0
dim_at (suc n) v = if v == 1 then suc n else dim_at n (parent_of v)

-- The block that a node of the machine of dimension `n` names.
abbrev pub region_at : ℕ → ℕ → Region
region_at n v = block (dim_at n v) (v - 2 ^ (n - dim_at n v))

-- The block of the node that a phase holds, if it holds one.
abbrev pub region_held : ℕ → ℕ → Option Region
region_held n v = if v == 0 then None else Some (region_at n v)

-- What each station holds. A station in phase `Holding` or `Leaving` holds a block.
abbrev pub held_of : State → Holdings
held_of w s = region_held w.dim (node_held (phase_of w s))

-- A step on the machine of blocks, by a station that asked for a node. It gets the block of this
-- node, or its own block is taken away, or no station's holding changes.
abbrev pub IsMachineStep : ℕ → ℕ → ℕ → Holdings → Holdings → Type 0
IsMachineStep n station node old new =
    Gives n station (dim_at n node) old new (region_at n node)
    ⊎ (((r : Region) × TakesBack station old new r) ⊎ ((t : ℕ) → new t ≡ old t))
