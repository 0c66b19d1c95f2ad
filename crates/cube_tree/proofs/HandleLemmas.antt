-- The seat of a handle, before and after what its station does.
use Rattle.std.proofs.Common.{◌≡◌, ℕ, [], ◌∷◌, ◌<◌, refl, sym, ◌∙◌, ap, subst}
use Rattle.cube_shape.specs.declared.region.Region.{Region}
use Rattle.cube_shape.specs.Node.{IsInCube, IsNodeOf}
use Rattle.cube_shape.specs.Region.{IsAligned}
use Rattle.cube_shape.proofs.RegionLemmas.{IsNodeOf-aligned, IsNodeOf-one_region}
use Rattle.cube_core.specs.Held.{region_at}
use Rattle.cube_core.proofs.RunningLemmas.{region_named}
use Rattle.cube_core.specs.declared.phase.Phase.{Phase}
use Rattle.cube_core.specs.declared.phase.Phase.TheVariants.{Idle, Retired}
use Rattle.cube_core.specs.Event.{retirement}
use Rattle.tree_steps.specs.declared.view.Entry.{Entry}
use Rattle.tree_steps.specs.Rule.{others}
use Rattle.tree_steps.specs.Steps.{Known, first_of, put_first, begin, entry_in, entry_after, peek_at, retire_at, IsAt, Walks, Makes}
use Rattle.tree_steps.proofs.EventLemmas.{by_parts}
use Rattle.tree_steps.proofs.PeekLemmas.{peek_leaves, at_after_peek}
use Rattle.tree_steps.proofs.WalkLemmas.{LeavesRest, leaves_on, begin_leaves, walk_leaves, makes_of}
use Rattle.atomic_table.specs.Seated.{TableId}
use Rattle.cube_tree.specs.Seats.{IsSeatOf}
use Rattle.cube_tree.specs.declared.handles.Cube.{Cube}
use Rattle.cube_tree.specs.declared.handles.Subcube.{Subcube}
use Rattle.cube_tree.specs.Handles.{cube_dim, held_node, IsSubcubeOf}

-- the station of a seat is in the phase that its handle says
pub at_of : {number : ℕ} {p : Phase} {m : Known} → IsSeatOf number p m → IsAt m p
at_of {m = m} seat = record { there = seat.one ∙ ap (λ es. first_of m ∷ es) (sym (ap others seat.one)); phase = seat.phase_is }

-- a seat of one station remains one
pub seat_after : {number : ℕ} {p q : Phase} {m new : Known}
    → IsSeatOf number p m
    → LeavesRest m new
    → IsAt new q
    → IsSeatOf number q new
seat_after {new = new} seat leaves at = record {
  one = at.there ∙ ap (λ es. first_of new ∷ es) (leaves.others ∙ ap others seat.one);
  slots = leaves.slots ∙ seat.slots;
  no_loads = leaves.loads ∙ seat.no_loads;
  number_is = leaves.station ∙ seat.number_is;
  phase_is = at.phase;
}

pub begun_after : {number : ℕ} {p q : Phase} {m new : Known}
    → IsSeatOf number p m
    → (begun : Phase)
    → Walks (begin begun m) new
    → IsAt new q
    → IsSeatOf number q new
begun_after {m = m} seat begun walk at = seat_after seat (leaves_on (begin_leaves m begun) (walk_leaves walk)) at

-- a seat after a peek of its station
pub seat_peeked : {number : ℕ} {p : Phase} {m new : Known}
    → IsSeatOf number p m
    → (node found : ℕ)
    → new ≡ peek_at node found m
    → IsSeatOf number p new
seat_peeked seat node found is = seat_after seat (peek_leaves node found is) (at_after_peek (at_of seat) node found is)

-- what the station made
pub makes_after : {number : ℕ} {p : Phase} {m new : Known}
    → IsSeatOf number p m
    → (begun : Phase)
    → Walks (begin begun m) new
    → Makes (entry_in begun (first_of m)) (first_of new)
makes_after {m = m} {new = new} seat begun walk =
    subst (λ e. Makes e (first_of new)) (by_parts (λ x. first_of (begin begun x) ≡ entry_in begun (first_of x)) m (at_of seat).there refl) (makes_of walk)

-- a region of the cube is that of one of its nodes
pub node_of_cube : (cube : Cube) (subcube : Subcube)
    → IsSubcubeOf cube subcube
    → IsInCube (cube_dim cube) (held_node subcube)
node_of_cube cube subcube of_cube = (
  subcube.positive,
  subst (λ count. held_node subcube < count) (sym subcube.words ∙ ap (λ (id : TableId). id.words) of_cube ∙ cube.tree.words) subcube.in_cube,
)

-- the region of a node is aligned, and the only one that the node names
pub node_aligned : (n v : ℕ) → IsInCube n v → IsAligned n (region_at n v)
node_aligned n v in_cube = IsNodeOf-aligned n v (region_at n v) (region_named n v in_cube)

pub node_names : (n v : ℕ) → IsInCube n v → (r : Region) → IsNodeOf n v r → region_at n v ≡ r
node_names n v in_cube r named = IsNodeOf-one_region n v (region_at n v) r (region_named n v in_cube) named

-- the record of a station once it has retired
pub retired_record : {number : ℕ} {m new : Known}
    → IsSeatOf number Idle m
    → (found : ℕ)
    → new ≡ retire_at found m
    → first_of new ≡ entry_after (retirement (first_of m).station) found (first_of m)
retired_record {m = m} seat found is =
    ap first_of is ∙ by_parts (λ x. first_of (retire_at found x) ≡ entry_after (retirement (first_of x).station) found (first_of x)) m (at_of seat).there refl

-- a station that has retired
pub record HasRetired (number : ℕ) (m : Known) : Type 0 where
  pub entry : Entry
  pub one : m.0.stations ≡ entry ∷ []
  pub number_is : entry.station ≡ number
  pub phase_is : entry.phase ≡ Retired
  pub slots : m.1 ≡ []
  pub no_loads : m.0.loads ≡ []

pub retired_seat : {number : ℕ} {m new : Known}
    → IsSeatOf number Idle m
    → (found : ℕ)
    → new ≡ retire_at found m
    → HasRetired number new
retired_seat {number = number} {m = m} seat found is = subst (HasRetired number) (sym is) (record {
  entry = entry_after (retirement (first_of m).station) found (first_of m);
  one = ap (put_first (entry_after (retirement (first_of m).station) found (first_of m))) seat.one;
  number_is = seat.number_is;
  phase_is = refl;
  slots = seat.slots;
  no_loads = seat.no_loads;
})
