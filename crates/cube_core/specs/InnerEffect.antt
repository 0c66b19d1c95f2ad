-- What the code computes of one event. No public contract cites this.
use Rattle.std.specs.Prelude.{◌≡◌, ℕ, [], ◌∷◌}
use Rattle.cube_core.specs.declared.effect.Effect.{Effect}
use Rattle.cube_core.specs.Event.{Transition}

-- The computed effect is that of this event at the word found.
pub record IsEffect (d : Transition) (found : ℕ) (effect : Effect) : Type 0 where
  pub node : effect.event.node ≡ d.node
  pub word : effect.word ≡ d.writes found
  pub next : effect.next ≡ d.next found
  pub event : d.events found ≡ effect.event ∷ []
