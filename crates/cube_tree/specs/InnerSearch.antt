-- Which node a search tries next, and what the refusals before it say. No public contract cites
-- these.
use Rattle.std.specs.Prelude.{◌≡◌, ℕ, ◌+◌, ◌*◌, ◌/◌, ◌^◌, ◌<◌, ◌≤◌, ◌↔◌, Bool, IsTrue, List, [], ◌∷◌, length, Option, IfSome, MatchOption}
use Rattle.cube_shape.specs.Node.{OnPath}
use Rattle.status_word.specs.Word.{IsOccupied}
use Rattle.tree_steps.specs.declared.view.Entry.{Entry}
use Rattle.tree_steps.specs.declared.view.Peek.{Peek}
use Rattle.tree_steps.specs.declared.why.Why.{Why}
use Rattle.tree_steps.specs.declared.why.Why.TheVariants.{InUse, Lost, Under}
use Rattle.tree_steps.specs.Answer.{ancestor_of}
use Rattle.tree_steps.specs.Steps.{with_peeks}
use Rattle.cube_tree.specs.declared.refusal.Refusal.{Refusal}
use Rattle.cube_tree.specs.Tries.{counted, no_refusal}
use Rattle.cube_tree.specs.Search.{RefusedTry, IsSeenOccupied}
use Rattle.cube_tree.specs.Hint.{PeeksAtHint}

-- The ancestor that a refusal names is one of node `v`.
abbrev pub NamesAncestor : Why → ℕ → Type 0
NamesAncestor why v = IfSome (ancestor_of why) (λ at. OnPath at v × (at < v))

-- Node `v` is under the ancestor that the refusal names.
abbrev pub IsUnder : Why → ℕ → Type 0
IsUnder why v = MatchOption (ancestor_of why) ⊥ (λ at. OnPath at v)

-- The node after `v` on its level, or the first one after those under the occupied ancestor.
abbrev pub IsNodeAfter : Why → ℕ → ℕ → Type 0
IsNodeAfter InUse v next = next ≡ v + 1
IsNodeAfter Lost v next = next ≡ v + 1
IsNodeAfter (Under at) v next =
    (steps : ℕ) × (v / 2 ^ steps ≡ at.0) × (next ≡ (at.0 + 1) * 2 ^ steps)

-- A peek at a node is noted. The answer is whether the word that it found is occupied.
pub record Finds (node : ℕ) (is_occupied : Bool) (old new : Entry) : Type 0 where
  pub word : ℕ
  pub entry : new ≡ with_peeks (record { node = node; word = word } ∷ []) old
  pub answer : IsTrue is_occupied ↔ IsOccupied word

-- A search of the level `j` levels below the root begins at node `start`, after at most one peek.
-- The peek found each earlier node of the level, or an ancestor of it, occupied, and no other one.
-- The hint was `had`, and is now `kept`.
pub record Begins (j start : ℕ) (had kept : Option ℕ) (old new : Entry) : Type 0 where
  pub peeks : List Peek
  pub few : length peeks ≤ 1
  pub entry : new ≡ with_peeks peeks old
  pub low : 2 ^ j ≤ start
  pub high : start ≤ 2 * 2 ^ j
  pub each : (v : ℕ) → 2 ^ j ≤ v → v < start → IsSeenOccupied v peeks
  pub beyond : (v : ℕ) → start ≤ v → v < 2 * 2 ^ j → IsSeenOccupied v peeks → ⊥
  pub peeked : PeeksAtHint (2 ^ j) had peeks kept

-- The counts of these refusals.
abbrev pub counts_of : List RefusedTry → Refusal
counts_of [] = no_refusal
counts_of (t ∷ earlier) = counted t.why (counts_of earlier)
