-- What a phase says of its station: a table with one row for each phase, and what is read from it.
use Rattle.std.specs.Prelude.{◌≡◌, ◌≢◌, ℕ, suc, ◌<◌, ◌≤◌, ◌⊎◌, Bool, true, false, Option, Some, None}
use Rattle.cube_shape.specs.declared.node.Side.{Side}
use Rattle.cube_shape.specs.declared.node.Side.TheVariants.{Left, Right}
use Rattle.cube_shape.specs.Node.{OnPath, parent_of}
pub use Rattle.cube_shape.specs.Node.{side_of}
use Rattle.cube_core.specs.declared.act.Refused.{Refused}
use Rattle.cube_core.specs.declared.act.Refused.TheVariants.{Resting}
use Rattle.cube_core.specs.declared.phase.Seen.{Seen}
use Rattle.cube_core.specs.declared.phase.Seen.TheVariants as seen
use Rattle.cube_core.specs.declared.phase.Phase.{Phase}
use Rattle.cube_core.specs.declared.phase.Phase.TheVariants.{Idle, Looking, Looked, Climbing, Swept, Holding, Leaving, Backing, Arriving, Unmarked, Marked, Retired}

-- One row of the table. Where a field is 0, there is no such node.
pub record Standing : Type 0 where
  -- The node that its take named, until it holds that node or gives up.
  pub asked : ℕ
  -- The node that it owns: from its Claim to its Zero.
  pub owned : ℕ
  -- The deepest ancestor of the owned node that it has not passed. It has passed those with a
  -- greater number.
  pub stop : ℕ
  -- The number from which on it has passed or swept the ancestors of the owned node.
  pub swept_from : ℕ
  -- The node whose block it holds: from its last Raise to its Zero.
  pub held : ℕ
  -- The node that it is to clear.
  pub to_clear : ℕ
  -- The node where it is marked, the word that its mark made there, and what it has seen of the two
  -- children.
  pub marked_at : ℕ
  pub marked_word : ℕ
  pub saw : Side → Seen

-- The row of a station that has nothing to do with any node.
abbrev pub nowhere : Standing
nowhere =
    record {
      asked = 0;
      owned = 0;
      stop = 0;
      swept_from = 0;
      held = 0;
      to_clear = 0;
      marked_at = 0;
      marked_word = 0;
      saw = λ side. seen.NotYet;
    }

-- What was seen of the child on this side.
abbrev pub seen_of : Seen → Seen → Side → Seen
seen_of left right Left = left
seen_of left right Right = right

-- The table, with a row for each of the twelve phases. It says which node the station has asked
-- for, owns, holds, is to clear or has marked. It also says how far up the station is, and what it
-- has seen.
abbrev pub standing : Phase → Standing
standing Idle = nowhere
standing (Looking h) = record nowhere { asked = h }
standing (Looked h w) = record nowhere { asked = h }
standing (Climbing h a) = record nowhere { asked = h; owned = h; stop = a; swept_from = suc a }
standing (Swept h a) = record nowhere { asked = h; owned = h; stop = a; swept_from = a }
standing (Holding h) = record nowhere { owned = h; swept_from = 1; held = h }
standing (Leaving h) = record nowhere { owned = h; swept_from = 1; held = h }
standing (Backing h a) = record nowhere { owned = h; stop = a; swept_from = suc a }
standing (Arriving a) = record nowhere { to_clear = a }
standing (Unmarked a) = record nowhere { to_clear = a }
standing (Marked a w left right) =
    record nowhere { to_clear = a; marked_at = a; marked_word = w; saw = seen_of left right }
standing Retired = nowhere

-- The node that the station owns.
abbrev pub owned : Phase → ℕ
owned phase = (standing phase).owned

-- The node whose block the station holds.
abbrev pub node_held : Phase → ℕ
node_held phase = (standing phase).held

-- The word that the station's mark made.
abbrev pub marked_word : Phase → ℕ
marked_word phase = (standing phase).marked_word

-- Whether the child was seen free.
abbrev pub is_seen_free : Seen → Bool
is_seen_free seen.Free = true
is_seen_free _ = false

-- The station is to clear node `v`, whose word is `x`. It is arriving or unmarked there. Or it is
-- marked there, `x` is still the word that its mark made, and it has seen no child in use.
abbrev pub MustClear : Phase → ℕ → ℕ → Type 0
MustClear (Arriving a) v x = a ≡ v
MustClear (Unmarked a) v x = a ≡ v
MustClear (Marked a w left right) v x = (a ≡ v) × (w ≡ x) × (left ≢ seen.Used) × (right ≢ seen.Used)
MustClear _ v x = ⊥

-- The reason why a step is refused in this phase, if it is.
abbrev pub step_refusal : Phase → Option Refused
step_refusal Idle = Some Resting
step_refusal (Holding h) = Some Resting
step_refusal Retired = Some Resting
step_refusal _ = None

-- There is a reason, so the call is refused.
abbrev pub IsRefused : Option Refused → Type 0
IsRefused None = ⊥
IsRefused (Some why) = Unit {0}

-- The station is at rest: it makes no event before its next call, so a step is refused.
abbrev pub IsAtRest : Phase → Type 0
IsAtRest phase = IsRefused (step_refusal phase)

-- The station owns node `v`: it has claimed it and not zeroed it.
abbrev pub Owns : Phase → ℕ → Type 0
Owns phase v = (0 < v) × (owned phase ≡ v)

-- The station has passed the parent of `c` through `c`. This is an ancestor of the node that it
-- owns, and its Raise found no OCC there.
abbrev pub HasPassed : Phase → ℕ → Type 0
HasPassed phase c = OnPath c (owned phase) × ((standing phase).stop < parent_of c)

-- The station has passed the parent of `c` through `c`, or has swept it and not raised it yet.
abbrev pub HasSwept : Phase → ℕ → Type 0
HasSwept phase c = OnPath c (owned phase) × ((standing phase).swept_from ≤ parent_of c)

-- The station is marked at node `v`.
abbrev pub IsMarkedAt : Phase → ℕ → Type 0
IsMarkedAt phase v = (0 < v) × ((standing phase).marked_at ≡ v)

-- The station is engaged at node `v`: it owns a node of the subtree of `v`, or is to clear one.
abbrev pub IsEngagedAt : Phase → ℕ → Type 0
IsEngagedAt phase v = OnPath v (owned phase) ⊎ OnPath v (standing phase).to_clear
