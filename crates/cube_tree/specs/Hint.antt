-- The hint that a station keeps from its searches, and the node at which a search peeks.
use Rattle.std.specs.Prelude.{◌≡◌, ℕ, ◌*◌, ◌^◌, ◌<◌, Bool, true, false, nat_eq, List, [], ◌∷◌, Option, Some, None, MatchOption}
use Rattle.cube_shape.specs.declared.node.Node.{Node}
use Rattle.cube_shape.specs.Node.{OnPath}
use Rattle.status_word.specs.Word.{IsOccupied}
use Rattle.tree_steps.specs.declared.view.Entry.{Entry}
use Rattle.tree_steps.specs.declared.view.Peek.{Peek}
use Rattle.tree_steps.specs.Answer.{ancestor_of}
use Rattle.cube_tree.specs.declared.handles.Cube.{Cube}
use Rattle.cube_tree.specs.declared.handles.Subcube.{Subcube}
use Rattle.cube_tree.specs.declared.handles.TreeStation.{TreeStation}
use Rattle.cube_tree.specs.Handles.{cube_dim, station_entry, held_node, TakesNode}
use Rattle.cube_tree.specs.Search.{RefusedTry, Searches}

-- The number of a hint's node.
abbrev pub node_of_hint : Option Node → Option ℕ
node_of_hint None = None
node_of_hint (Some at) = Some at.0

-- The hint of a station: the node that it remembers, if it remembers one.
abbrev pub hint_of : TreeStation → Option ℕ
hint_of station = node_of_hint station.hint

-- The hint of the station that holds a subcube.
abbrev pub hint_with : Subcube → Option ℕ
hint_with subcube = node_of_hint subcube.hint

-- The station remembers no node.
abbrev pub HasNoHint : TreeStation → Type 0
HasNoHint station = hint_of station ≡ None

-- Node `a` is an ancestor of node `v`.
abbrev pub IsAbove : ℕ → ℕ → Type 0
IsAbove a v = OnPath a v × (a < v)

-- There is a hint, and its node is an ancestor of node `v`.
abbrev pub IsHintAbove : Option ℕ → ℕ → Type 0
IsHintAbove hint v = MatchOption hint ⊥ (λ at. IsAbove at v)

-- The peeks of a search from node `first` on, by a station with the hint `had`. There is one peek,
-- at the hint, if this is an ancestor of `first`, and else none. Afterwards the hint is `kept`.
-- This is the same hint, or none if the peek found it not occupied.
abbrev pub PeeksAtHint : ℕ → Option ℕ → List Peek → Option ℕ → Type 0
PeeksAtHint first had [] kept = (IsHintAbove had first → ⊥) × (kept ≡ had)
PeeksAtHint first had (peek ∷ []) kept =
    IsHintAbove had first × (had ≡ Some peek.node) × (IsOccupied peek.word → kept ≡ had)
    × ((IsOccupied peek.word → ⊥) → kept ≡ None)
PeeksAtHint first had (peek ∷ other ∷ more) kept = ⊥

-- The hint after a refused try. This is the occupied ancestor, if the refusal names one and the try
-- was that of the first node. Else the hint does not change.
abbrev pub hint_after_refusal : Bool → Option ℕ → Option ℕ → Option ℕ
hint_after_refusal true (Some at) had = Some at
hint_after_refusal true None had = had
hint_after_refusal false ancestor had = had

-- The hint after these tries, the newest first, of a search from node `first` on.
abbrev pub hint_after : ℕ → Option ℕ → List RefusedTry → Option ℕ
hint_after first had [] = had
hint_after first had (t ∷ earlier) =
    hint_after_refusal (nat_eq t.node first) (ancestor_of t.why) (hint_after first had earlier)

-- A station with the hint `had` searched the level `j` levels below the root, up to node `end`. Its
-- hint is now `now`.
pub record Remembers (n j end : ℕ) (had now : Option ℕ) (old new : Entry) : Type 0 where
  pub peeks : List Peek
  pub tries : List RefusedTry
  pub searches : Searches n j end peeks tries old new
  pub kept : Option ℕ
  pub peeked : PeeksAtHint (2 ^ j) had peeks kept
  pub after : now ≡ hint_after (2 ^ j) kept tries

-- A search of the whole level, each block of which was refused.
abbrev pub RemembersRefused : ℕ → ℕ → TreeStation → TreeStation → Type 0
RemembersRefused n j old new =
    Remembers n j (2 * 2 ^ j) (hint_of old) (hint_of new) (station_entry old) (station_entry new)

-- A search up to the node that was taken.
pub record RemembersTaken (cube : Cube) (j : ℕ) (old : TreeStation)
    (subcube : Subcube) : Type 0 where
  pub between : Entry
  pub search :
      Remembers (cube_dim cube) j (held_node subcube) (hint_of old) (hint_with subcube)
      (station_entry old) between
  pub taken : TakesNode cube (held_node subcube) between subcube
