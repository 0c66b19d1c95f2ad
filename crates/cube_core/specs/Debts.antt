-- Words in use, and the stations that are still to clear their nodes.
use Rattle.std.specs.Prelude.{◌≡◌, ◌≢◌, ℕ, ◌<◌, ◌⊎◌}
use Rattle.cube_shape.specs.declared.node.Side.TheVariants.{Left, Right}
use Rattle.cube_shape.specs.Node.{child_of}
use Rattle.status_word.specs.Word.{IsOccupied, IsFree, IsInUse}
use Rattle.cube_core.specs.Phase.{marked_word, IsMarkedAt, MustClear}
use Rattle.cube_core.specs.Schedule.{State, phase_of, word_of}

-- The invariant on debts: a word is in use only if this has a reason, and each mark has a reason.
pub record HasDebts (w : State) : Type 0 where
  -- A word that is in use and not occupied has a child in use, or a station that is to clear its
  -- node.
  pub in_use : (v : ℕ) → 0 < v → IsInUse (word_of w v) → (IsOccupied (word_of w v) → ⊥)
      → IsInUse (word_of w (child_of v Left)) ⊎ (IsInUse (word_of w (child_of v Right))
      ⊎ ((s : ℕ) × MustClear (phase_of w s) v (word_of w v)))
  -- A free word that is not 0 has a mark. It is the word that some station's mark made there.
  pub marked : (v : ℕ) → 0 < v → IsFree (word_of w v) → word_of w v ≢ 0
      → (s : ℕ) × IsMarkedAt (phase_of w s) v × (marked_word (phase_of w s) ≡ word_of w v)
  -- No two stations are marked at one node by the same word.
  pub unlike : (s t v : ℕ) → s ≢ t → IsMarkedAt (phase_of w s) v → IsMarkedAt (phase_of w t) v
      → marked_word (phase_of w s) ≢ marked_word (phase_of w t)
