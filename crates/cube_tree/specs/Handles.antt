-- What contracts say of the handles.
use Rattle.std.specs.Prelude.{◌≡◌, ℕ, ◌+◌, ◌*◌, ◌<◌, ◌≤◌, List, ◌∷◌, length, IfSome}
use Rattle.cube_shape.specs.declared.region.Region.{Region}
use Rattle.cube_shape.specs.Node.{IsNodeOf, OnPath}
use Rattle.cube_shape.specs.Region.{IsAligned}
use Rattle.cube_core.specs.declared.event.Event.{Event}
use Rattle.cube_core.specs.declared.event.Kind.TheVariants.{Retire}
use Rattle.cube_core.specs.declared.phase.Phase.TheVariants.{Idle, Looking, Holding, Leaving, Retired}
use Rattle.cube_core.specs.Count.{depth}
use Rattle.cube_core.specs.Held.{region_at}
use Rattle.tree_steps.specs.declared.why.Why.{Why}
use Rattle.tree_steps.specs.declared.view.Entry.{Entry}
use Rattle.tree_steps.specs.declared.view.Size.{Size}
use Rattle.tree_steps.specs.Steps.{first_of, entry_in, Makes}
use Rattle.tree_steps.specs.Answer.{IsAnswered, ancestor_of}
use Rattle.tree_steps.specs.Tree.{id_of, size_of}
use Rattle.atomic_table.specs.Seated.{TableId}
use Rattle.cube_tree.specs.declared.handles.Cube.{Cube}
use Rattle.cube_tree.specs.declared.handles.TreeStation.{TreeStation}
use Rattle.cube_tree.specs.declared.handles.RetiredStation.{RetiredStation}
use Rattle.cube_tree.specs.declared.handles.Subcube.{Subcube}

-- The size of a cube's machine.
abbrev pub cube_size : Cube → Size
cube_size cube = size_of cube.tree

-- The dimension of a cube's machine.
abbrev pub cube_dim : Cube → ℕ
cube_dim cube = (cube_size cube).dim

-- What the cube's loads of the roll found, the newest first.
abbrev pub loads_of : Cube → List ℕ
loads_of cube = cube.seat.me.0.loads

-- The record of a station: its number, its phase, its trail and its peeks, the newest first.
abbrev pub station_entry : TreeStation → Entry
station_entry station = first_of station.seat.me

-- The record of the station that holds a subcube.
abbrev pub subcube_entry : Subcube → Entry
subcube_entry subcube = first_of subcube.seat.me

-- The record of a retired station.
abbrev pub retired_entry : RetiredStation → Entry
retired_entry retired = first_of retired.seat.me

-- The size of the machine of dimension `n` with this many stations.
abbrev pub size_with : ℕ → ℕ → Size
size_with n stations = record { dim = n; stations = stations }

-- The same cube, except what its loads of the roll found.
pub record IsSameCube (old new : Cube) : Type 0 where
  pub table : id_of new.tree ≡ id_of old.tree
  pub size : cube_size new ≡ cube_size old

-- The station steps on this table of words.
abbrev pub HasTable : TableId → TreeStation → Type 0
HasTable id station = station.seat.table_id ≡ id

-- The station is one of this cube.
abbrev pub IsStationOf : Cube → TreeStation → Type 0
IsStationOf cube station = HasTable (id_of cube.tree) station

-- The subcube is one of this cube.
abbrev pub IsSubcubeOf : Cube → Subcube → Type 0
IsSubcubeOf cube subcube = subcube.seat.table_id ≡ id_of cube.tree

-- The node that is held.
abbrev pub held_node : Subcube → ℕ
held_node subcube = subcube.node.0

-- The block that is held.
abbrev pub held_region : Subcube → Region
held_region subcube = subcube.region

-- A station with record `old` has taken the block of a node. The block is aligned, and the one that
-- the node names. The station made the events of one take of this node and no others. These are at
-- most `3 + 7j` for a node `j` levels below the root.
pub record TakesNode (cube : Cube) (node : ℕ) (old : Entry) (subcube : Subcube) : Type 0 where
  pub of_cube : IsSubcubeOf cube subcube
  pub number : (subcube_entry subcube).station ≡ old.station
  pub makes : Makes (entry_in (Looking node) old) (subcube_entry subcube)
  pub holds : (subcube_entry subcube).phase ≡ Holding node
  pub node_is : held_node subcube ≡ node
  pub region_is : held_region subcube ≡ region_at (cube_dim cube) node
  pub aligned : IsAligned (cube_dim cube) (held_region subcube)
  pub asked : (r : Region) → IsNodeOf (cube_dim cube) node r → held_region subcube ≡ r
  pub bound : length (subcube_entry subcube).trail
      ≤ length old.trail + (3 + 7 * depth (cube_dim cube) node)

-- A station was refused the block of a node of the machine of dimension `n`, and is idle again. It
-- made the events of one take of this node and of its roll-back, and no others. One of them refused
-- the take.
pub record IsRefusedTry (n node : ℕ) (old new : Entry) (why : Why) : Type 0 where
  pub number : new.station ≡ old.station
  pub makes : Makes (entry_in (Looking node) old) new
  pub idle : new.phase ≡ Idle
  pub answer : IsAnswered why node old new
  pub names : IfSome (ancestor_of why) (λ at. OnPath at node × (at < node))
  pub bound : length new.trail ≤ length old.trail + (3 + 7 * depth n node)

-- A station has released the block of a node, and is idle again. It made the events of one release
-- and no others, at most `1 + 5j`.
pub record GivesBack (cube : Cube) (node : ℕ) (old : Entry) (station : TreeStation) : Type 0 where
  pub of_cube : IsStationOf cube station
  pub number : (station_entry station).station ≡ old.station
  pub makes : Makes (entry_in (Leaving node) old) (station_entry station)
  pub idle : (station_entry station).phase ≡ Idle
  pub bound : length (station_entry station).trail
      ≤ length old.trail + (1 + 5 * depth (cube_dim cube) node)

-- A station has retired. It made one event, its Retire, and no other.
pub record Retires (cube : Cube) (old : Entry) (retired : RetiredStation) : Type 0 where
  pub of_cube : retired.seat.table_id ≡ id_of cube.tree
  pub number : (retired_entry retired).station ≡ old.station
  pub phase_is : (retired_entry retired).phase ≡ Retired
  pub event : Event
  pub kind_is : event.kind ≡ Retire
  pub trail : (retired_entry retired).trail ≡ event ∷ old.trail

-- The same subcube: its station, its record, its hint, its node and its block.
pub record IsSameSubcube (old new : Subcube) : Type 0 where
  pub table : new.seat.table_id ≡ old.seat.table_id
  pub entry : subcube_entry new ≡ subcube_entry old
  pub hint_is : new.hint ≡ old.hint
  pub node_is : held_node new ≡ held_node old
  pub region_is : held_region new ≡ held_region old
