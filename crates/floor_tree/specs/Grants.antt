-- The blocks that a station was given, read from the list of its events, the newest first.
use Rattle.std.specs.Prelude.{ℕ, ◌-◌, Bool, true, false, if◌then◌else◌, List, [], ◌∷◌, ◌++◌}
use Rattle.std.specs.Int.{trailing_zeros, w64}
use Rattle.atomic_table.specs.Seated.{TableId}
use Rattle.cube_shape.specs.declared.region.Region.{Region}
use Rattle.cube_core.specs.declared.event.Event.{Event}
use Rattle.cube_core.specs.declared.event.Kind.{Kind}
use Rattle.cube_core.specs.declared.event.Kind.TheVariants.{Look}
use Rattle.cube_core.specs.declared.event.Note.{Note}
use Rattle.cube_core.specs.declared.event.Note.TheVariants.{Held}
use Rattle.cube_core.specs.Held.{region_at}
use Rattle.cube_tree.specs.declared.handles.TreeStation.{TreeStation}
use Rattle.cube_tree.specs.declared.handles.Subcube.{Subcube}
use Rattle.cube_tree.specs.Handles.{station_entry, subcube_entry}

-- Whether an event of this kind begins a take: it looks at the node of the take.
abbrev pub is_look : Kind → Bool
is_look Look = true
is_look kind = false

-- Whether an event with this note ends a take, after which the station holds the block.
abbrev pub is_held : Note → Bool
is_held Held = true
is_held note = false

-- The node of the newest take.
abbrev pub newest_node : List Event → ℕ
newest_node [] = 0
newest_node (e ∷ earlier) = if is_look e.kind then e.node else newest_node earlier

-- The blocks that the station was given, in order, in the machine of dimension `n`.
abbrev pub grants_in : ℕ → List Event → List Region
grants_in n [] = []
grants_in n (e ∷ earlier) =
    if is_held e.note then grants_in n earlier
    ++ region_at n (newest_node earlier) ∷ [] else grants_in n earlier

-- The dimension of the machine of a table, which has `2^(n + 1)` words.
abbrev pub dim_of : TableId → ℕ
dim_of table = trailing_zeros w64 table.words - 1

-- The blocks that a station was given, in order.
abbrev pub station_grants : TreeStation → List Region
station_grants station = grants_in (dim_of station.seat.table_id) (station_entry station).trail

-- The blocks that the station of a held block was given, in order.
abbrev pub subcube_grants : Subcube → List Region
subcube_grants subcube = grants_in (dim_of subcube.seat.table_id) (subcube_entry subcube).trail
