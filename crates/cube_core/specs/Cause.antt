-- No refusal without a cause: if an event refuses a station's try, another station is in the way.
use Rattle.std.specs.Prelude.{◌≡◌, ◌≢◌, ℕ, ◌⊎◌}
use Rattle.cube_shape.specs.Node.{OnPath}
use Rattle.status_word.specs.Word.{IsMarked}
use Rattle.cube_core.specs.declared.phase.Phase.TheVariants.{Looked}
use Rattle.cube_core.specs.declared.event.Event.{Event}
use Rattle.cube_core.specs.declared.event.Kind.TheVariants.{Look, Claim, Raise}
use Rattle.cube_core.specs.declared.event.Note.TheVariants as note
use Rattle.cube_core.specs.Phase.{owned, Owns, IsEngagedAt}
use Rattle.cube_core.specs.Schedule.{State, phase_of, word_of}

-- Another station than `s` is engaged at node `v`.
abbrev pub HasOtherAt : State → ℕ → ℕ → Type 0
HasOtherAt w s v = (t : ℕ) × (t ≢ s) × IsEngagedAt (phase_of w t) v

-- The reason why the event of station `s` refuses its try, if it does. State `w` is the one before
-- the event; the phases of the other stations are the same after it.
pub record HasCause (w : State) (s : ℕ) (event : Event) : Type 0 where
  -- A Look finds its node in use. Then another station owns a node at or under it, or is to clear
  -- one.
  pub look : event.kind ≡ Look → event.note ≡ note.InUse → HasOtherAt w s event.node
  -- A Claim finds another word than the one read. Then another station is engaged at the node, or
  -- the node's word is 0 and the word read had the mark of another station.
  pub claim : event.kind ≡ Claim → event.note ≡ note.Lost → HasOtherAt w s event.node
      ⊎ ((word_of w event.node ≡ 0) × ((t : ℕ) × (read : ℕ)
      × (phase_of w s ≡ Looked event.node read) × (t ≢ s) × IsMarked t read))
  -- A Raise finds an ancestor of the station's node occupied. Then another station owns the
  -- ancestor.
  pub raise : event.kind ≡ Raise
      → event.note ≡ note.Under
      → OnPath event.node (owned (phase_of w s))
      × ((t : ℕ) × (t ≢ s) × Owns (phase_of w t) event.node)
