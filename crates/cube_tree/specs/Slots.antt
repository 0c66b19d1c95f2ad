-- What the stations of a machine hold, as a list of their nodes, and the seat that all of them step
-- with.
use Rattle.std.specs.Prelude.{◌≡◌, ◌≢◌, ℕ, ◌<◌, List, [], All, length, slice_index, slice_index_or, Option, Some, None}
use Rattle.cube_shape.specs.declared.node.Node.{Node}
use Rattle.cube_shape.specs.declared.region.Region.{Region}
use Rattle.cube_shape.specs.Machine.{Holdings}
use Rattle.cube_shape.specs.Region.{AreApart}
use Rattle.cube_shape.specs.Node.{IsInCube}
use Rattle.cube_core.specs.declared.phase.Phase.{Phase}
use Rattle.cube_core.specs.declared.phase.Phase.TheVariants.{Idle, Holding}
use Rattle.cube_core.specs.Held.{region_at}
use Rattle.tree_steps.specs.declared.view.Entry.{Entry}
use Rattle.tree_steps.specs.Alone.{TellsWord}
use Rattle.tree_steps.specs.Rule.{times}
use Rattle.tree_steps.specs.Steps.{Known}

-- The node that a station holds. A station past the list holds none.
abbrev pub node_of_station : List (Option Node) → ℕ → Option Node
node_of_station nodes s = slice_index_or nodes s None

-- The block of the node that is held, if one is.
abbrev pub region_of_slot : ℕ → Option Node → Option Region
region_of_slot n None = None
region_of_slot n (Some v) = Some (region_at n v.0)

-- What each station holds.
abbrev pub holdings : ℕ → List (Option Node) → Holdings
holdings n nodes s = region_of_slot n (node_of_station nodes s)

-- The phase of a station by the node that it holds.
abbrev pub phase_of_slot : Option Node → Phase
phase_of_slot None = Idle
phase_of_slot (Some v) = Holding v.0

-- No station has a bit in the roll, and the word of each node says what these stations hold.
pub record IsTold (n : ℕ) (words : List ℕ) (entries : List Entry) : Type 0 where
  pub roll : slice_index words 0 ≡ 0
  pub nodes : (v : ℕ) → IsInCube n v → TellsWord v (slice_index words v) entries

-- All stations are with this seat, and each holds the node that the list has for it. These nodes
-- are in the machine, and their blocks do not overlap.
pub record Represents (n count : ℕ) (nodes : List (Option Node)) (m : Known) : Type 0 where
  pub slot_count : length nodes ≡ count
  pub present : (s : ℕ) → s < count → 0 < times s m.0.stations
  pub phases : All (λ e. e.phase ≡ phase_of_slot (node_of_station nodes e.station)) m.0.stations
  pub in_cube : (s : ℕ) (v : Node) → node_of_station nodes s ≡ Some v → IsInCube n v.0
  pub apart : (s t : ℕ) (v w : Node)
      → s ≢ t
      → node_of_station nodes s ≡ Some v
      → node_of_station nodes t ≡ Some w
      → AreApart (region_at n v.0) (region_at n w.0)
  pub slots : m.1 ≡ []
