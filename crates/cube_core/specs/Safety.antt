-- Words, and the stations that own, have passed or have marked their nodes.
use Rattle.std.specs.Prelude.{◌≡◌, ℕ, ◌<◌, ◌↔◌}
use Rattle.cube_shape.specs.Node.{parent_of}
use Rattle.status_word.specs.Word.{IsSet, IsOccupied, HasSide, IsMarked}
use Rattle.cube_core.specs.declared.phase.Seen.TheVariants as seen
use Rattle.cube_core.specs.Phase.{side_of, standing, marked_word, Owns, HasPassed, HasSwept, IsMarkedAt}
use Rattle.cube_core.specs.Schedule.{State, phase_of, word_of}

-- The invariant on safety: words, owners and marks agree.
pub record IsSafe (w : State) : Type 0 where
  -- If a station has passed a node through child `c`, the node's word has the side of `c`.
  pub sides : (s c : ℕ) → HasPassed (phase_of w s) c → HasSide (side_of c) (word_of w (parent_of c))
  -- The word of a node is occupied exactly if some station owns the node.
  pub occupied : (v : ℕ) → 0 < v → IsOccupied (word_of w v) ↔ ((s : ℕ) × Owns (phase_of w s) v)
  -- Then no other station owns it.
  pub one_owner : (s t v : ℕ) → Owns (phase_of w s) v → Owns (phase_of w t) v → s ≡ t
  -- Then no station has passed it.
  pub not_passed : (s t c : ℕ) → Owns (phase_of w s) (parent_of c) → HasPassed (phase_of w t) c → ⊥
  -- While the mark of a station that is marked at `v` is set, the word of `v` has every bit of the
  -- marked word.
  pub only_grown : (s v : ℕ) → IsMarkedAt (phase_of w s) v → IsMarked s (word_of w v) → (i : ℕ)
      → IsSet (marked_word (phase_of w s)) i → IsSet (word_of w v) i
  -- If that station also saw child `c` free, no station has swept or passed `v` through `c`.
  pub seen_free : (s t c : ℕ) → IsMarkedAt (phase_of w s) (parent_of c)
      → IsMarked s (word_of w (parent_of c)) → (standing (phase_of w s)).saw (side_of c) ≡ seen.Free
      → HasSwept (phase_of w t) c → ⊥
