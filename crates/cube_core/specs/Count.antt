-- A bound on the number of events that a station still has to make before it rests.
use Rattle.std.specs.Prelude.{◌≡◌, ◌≢◌, ℕ, ◌+◌, ◌-◌, ◌*◌, ◌<◌, ◌≤◌, List, ◌∷◌, length, None}
use Rattle.cube_shape.specs.declared.region.Region.{Region}
use Rattle.cube_shape.specs.Node.{IsNodeOf}
use Rattle.cube_core.specs.declared.event.Event.{Event}
use Rattle.cube_core.specs.declared.phase.Seen.{Seen}
use Rattle.cube_core.specs.declared.phase.Seen.TheVariants as seen
use Rattle.cube_core.specs.declared.phase.Phase.{Phase}
use Rattle.cube_core.specs.declared.phase.Phase.TheVariants.{Looking, Looked, Climbing, Swept, Leaving, Backing, Arriving, Unmarked, Marked}
use Rattle.cube_core.specs.declared.act.Act.{Act}
use Rattle.cube_core.specs.declared.act.Act.TheVariants.{Take, Release, Step}
use Rattle.cube_core.specs.Phase.{node_held}
use Rattle.cube_core.specs.Held.{dim_at}
use Rattle.cube_core.specs.Schedule.{State, record_of, phase_of, trail_of, refusal, station_of, apply, apply_all, HasOnlySteps}

-- The number of levels of a node below the root: `n - k` for the node of a block of dimension `k`.
abbrev pub depth : ℕ → ℕ → ℕ
depth n v = n - dim_at n v

-- One load for a child that is not seen yet, else none.
abbrev pub unseen : Seen → ℕ
unseen seen.NotYet = 1
unseen _ = 0

-- The largest number of events that a station in this phase still has to make. A take makes at most
-- two events a level on its way up. A release or roll-back makes at most five a level. Here `h` is
-- the node that it takes or releases, and `a` the node of its next event.
abbrev pub events_due : ℕ → Phase → ℕ
events_due n (Looking h) = 3 + 7 * depth n h
events_due n (Looked h w) = 2 + 7 * depth n h
events_due n (Climbing h a) = 3 + 5 * depth n h + 2 * depth n a
events_due n (Swept h a) = 2 + 5 * depth n h + 2 * depth n a
events_due n (Leaving h) = 1 + 5 * depth n h
events_due n (Backing h a) = 1 + 5 * depth n h
events_due n (Arriving a) = 5 + 5 * depth n a
events_due n (Unmarked a) = 4 + 5 * depth n a
events_due n (Marked a w left right) = 1 + unseen left + unseen right + 5 * depth n a
events_due n _ = 0

-- The bound on the events of each take and each release. A take of a node `j` levels below the root
-- makes at most `3 + 7j` events, and a release at most `1 + 5j`. This holds for every list of acts
-- in which the station's own acts are steps.
pub record IsCounted (w : State) : Type 0 where
  -- The node of a block of dimension `k` is `n - k` levels below the root.
  pub levels : (v : ℕ) (r : Region) → IsNodeOf w.dim v r → depth w.dim v ≡ w.dim - r.dim
  -- Each event of a station lowers its own bound.
  pub falls : (s : ℕ) → refusal (Step s) w ≡ None
      → events_due w.dim (phase_of (apply (Step s) w) s) < events_due w.dim (phase_of w s)
  -- An accepted step adds exactly one event to its station's trail. It is an event of this station.
  pub one_event : (s : ℕ) → refusal (Step s) w ≡ None
      → (event : Event) × (event.station ≡ s)
      × (trail_of (apply (Step s) w) s ≡ event ∷ trail_of w s)
  -- So no step raises the number of events that a station has made plus its bound.
  pub never_rises : (s t : ℕ)
      → length (trail_of (apply (Step s) w) t) + events_due w.dim (phase_of (apply (Step s) w) t)
      ≤ length (trail_of w t) + events_due w.dim (phase_of w t)
  -- No act changes another station's phase or trail.
  pub others : (act : Act) (t : ℕ) → t ≢ station_of act → record_of (apply act w) t ≡ record_of w t
  -- At a node `j` levels below the root, the station makes at most `3 + 7j` events after an
  -- accepted take. After an accepted release it makes at most `1 + 5j`. Both hold as long as all
  -- its further acts are steps.
  pub take_events : (s v : ℕ) (later : List Act) → refusal (Take s v) w ≡ None
      → HasOnlySteps s later
      → length (trail_of (apply_all later (apply (Take s v) w)) s)
      ≤ length (trail_of w s) + (3 + 7 * depth w.dim v)
  pub release_events : (s : ℕ) (later : List Act) → refusal (Release s) w ≡ None
      → HasOnlySteps s later
      → length (trail_of (apply_all later (apply (Release s) w)) s)
      ≤ length (trail_of w s) + (1 + 5 * depth w.dim (node_held (phase_of w s)))
