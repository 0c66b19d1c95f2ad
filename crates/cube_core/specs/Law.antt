-- What holds after every schedule. This does not say that a take ever succeeds, or which of two
-- stations wins. Nor does it say which of its two side bits a word has at rest.
use Rattle.std.specs.Prelude.{◌≡◌, ℕ, ◌<◌, ◌↔◌, List, ◌∷◌, length, Some, None}
use Rattle.cube_shape.specs.declared.region.Region.{Region}
use Rattle.cube_shape.specs.Node.{OnPath, IsNodeOf}
use Rattle.cube_shape.specs.Machine.{IsLawful}
use Rattle.status_word.specs.Word.{IsSet, IsFree, IsInUse}
use Rattle.cube_core.specs.declared.phase.Phase.TheVariants.{Retired}
use Rattle.cube_core.specs.declared.act.Act.{Act}
use Rattle.cube_core.specs.declared.act.Act.TheVariants.{Take, Step}
use Rattle.cube_core.specs.declared.event.Event.{Event}
use Rattle.cube_core.specs.Phase.{standing, node_held, IsEngagedAt, IsAtRest}
use Rattle.cube_core.specs.Schedule.{State, phase_of, trail_of, word_of, refusal, station_of, apply, apply_all, HasOnlySteps}
use Rattle.cube_core.specs.Safety.{IsSafe}
use Rattle.cube_core.specs.Debts.{HasDebts}
use Rattle.cube_core.specs.Held.{held_of, IsMachineStep}
use Rattle.cube_core.specs.Count.{IsCounted}
use Rattle.cube_core.specs.Cause.{HasCause}

-- The law of the tree: all of what follows. `every_schedule_is_lawful` proves it after every list
-- of acts, for every dimension and every number of stations.
pub record IsTreeLawful (w : State) : Type 0 where
  -- Words, owners and marks agree.
  pub safe : IsSafe w
  -- What is in use has an owner below it, or a station that is to clear it.
  pub debts : HasDebts w
  -- A station that holds a block holds the one that its node names.
  pub named : (s : ℕ) (r : Region) → held_of w s ≡ Some r
      → IsNodeOf w.dim (node_held (phase_of w s)) r
  -- The held blocks are aligned, and those of two stations do not overlap.
  pub apart : IsLawful w.dim (held_of w)
  -- Each further act is a step of its station on the machine of blocks, or changes no holding. A
  -- block that is given is that of the node asked for.
  pub steps : (act : Act)
      → IsMachineStep w.dim (station_of act) (standing (phase_of w (station_of act))).asked
      (held_of w) (held_of (apply act w))
  -- The node asked for is that of the take. After an accepted take, as long as all further acts of
  -- the station are steps, it holds the block of this node or nothing.
  pub taken : (s v : ℕ) (later : List Act) → refusal (Take s v) w ≡ None → HasOnlySteps s later
      → (r : Region) → held_of (apply_all later (apply (Take s v) w)) s ≡ Some r
      → IsNodeOf w.dim v r
  -- If the word of a node is in use, some station owns a node at or under it, or is to clear one.
  pub engaged : (v : ℕ) → 0 < v → IsInUse (word_of w v) → (s : ℕ) × IsEngagedAt (phase_of w s) v
  -- So no event refuses a try without a cause: another station is in the way.
  pub caused : (s : ℕ) (event : Event) → refusal (Step s) w ≡ None
      → trail_of (apply (Step s) w) s ≡ event ∷ trail_of w s → HasCause w s event
  -- When all are at rest, the word of a node is free exactly if no held node is at or under it.
  pub at_rest : ((s : ℕ) → IsAtRest (phase_of w s)) → (v : ℕ) → 0 < v
      → IsFree (word_of w v) ↔ ((s : ℕ) → OnPath v (node_held (phase_of w s)) → ⊥)
  -- When all have retired, the word of every node is 0.
  pub retired : ((s : ℕ) → phase_of w s ≡ Retired) → (v : ℕ) → 0 < v → word_of w v ≡ 0
  -- The bit of a station is set in the roll exactly if the station has retired.
  pub roll : (s : ℕ) → s < length w.records → IsSet (word_of w 0) s ↔ (phase_of w s ≡ Retired)
  -- Every take and every release ends after a bounded number of events.
  pub counted : IsCounted w
