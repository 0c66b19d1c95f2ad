-- A search of one level of nodes. It skips the nodes under an ancestor that a try or a peek found
-- occupied.
use Rattle.std.specs.Prelude.{◌≡◌, ℕ, ◌+◌, ◌*◌, ◌^◌, ◌<◌, ◌≤◌, ◌⊎◌, List, [], ◌∷◌, All, Any, length, MatchOption}
use Rattle.cube_shape.specs.Node.{OnPath}
use Rattle.status_word.specs.Word.{IsOccupied}
use Rattle.tree_steps.specs.declared.why.Why.{Why}
use Rattle.tree_steps.specs.declared.view.Entry.{Entry}
use Rattle.tree_steps.specs.declared.view.Peek.{Peek}
use Rattle.tree_steps.specs.Answer.{ancestor_of}
use Rattle.tree_steps.specs.Steps.{with_peeks}
use Rattle.cube_tree.specs.declared.refusal.Refusal.{Refusal}
use Rattle.cube_tree.specs.declared.handles.Cube.{Cube}
use Rattle.cube_tree.specs.declared.handles.Subcube.{Subcube}
use Rattle.cube_tree.specs.Handles.{cube_dim, subcube_entry, held_node, IsRefusedTry, TakesNode}
use Rattle.cube_tree.specs.Tries.{refusal_sum, refusals_in, added}

-- A refused try: its node and the reason.
pub record RefusedTry : Type 0 where
  pub node : ℕ
  pub why : Why

-- The refusal also covers node `v`. Node `v` is the one that was tried, or it is under the ancestor
-- that was occupied.
abbrev pub StandsFor : ℕ → RefusedTry → Type 0
StandsFor v t = (t.node ≡ v) ⊎ MatchOption (ancestor_of t.why) ⊥ (λ at. OnPath at v)

-- Node `v` comes after the node that was tried, and the refusal does not cover it.
abbrev pub IsPassedFor : ℕ → RefusedTry → Type 0
IsPassedFor v t = (t.node < v) × (StandsFor v t → ⊥)

-- A station made these tries, the newest first, and each was refused. Their nodes rise, and no try
-- is of a node that an earlier refusal covers.
abbrev pub AreRefused : ℕ → List RefusedTry → Entry → Entry → Type 0
AreRefused n [] old new = new ≡ old
AreRefused n (t ∷ earlier) old new =
    (between : Entry) × AreRefused n earlier old between × IsRefusedTry n t.node between new t.why
    × All (IsPassedFor t.node) earlier

-- A peek found node `v` or an ancestor of it occupied.
abbrev pub IsSeenOccupied : ℕ → List Peek → Type 0
IsSeenOccupied v peeks = Any (λ g. OnPath g.node v × IsOccupied g.word) peeks

-- A station searched the level `j` levels below the root, up to node `end`. It made at most one
-- peek, and then these tries. For each node of the level before `end`, some refusal covers it, or
-- the peek found it or an ancestor of it occupied. No node was tried that the peek had found so.
pub record Searches (n j end : ℕ) (peeks : List Peek) (tries : List RefusedTry) (old new : Entry) :
    Type 0 where
  pub one : length peeks ≤ 1
  pub refused : AreRefused n tries (with_peeks peeks old) new
  pub level : All (λ t. (2 ^ j ≤ t.node) × (t.node < end)) tries
  pub beside : All (λ t. IsSeenOccupied t.node peeks → ⊥) tries
  pub each : (v : ℕ) → 2 ^ j ≤ v → v < end → Any (StandsFor v) tries ⊎ IsSeenOccupied v peeks

-- After a search up to its node, the station took this node. No refusal covers it, and no peek
-- found it or an ancestor of it occupied.
pub record TakesNext (cube : Cube) (j : ℕ) (old : Entry) (subcube : Subcube) : Type 0 where
  pub peeks : List Peek
  pub tries : List RefusedTry
  pub between : Entry
  pub searches : Searches (cube_dim cube) j (held_node subcube) peeks tries old between
  pub order : All (IsPassedFor (held_node subcube)) tries
  pub beside : IsSeenOccupied (held_node subcube) peeks → ⊥
  pub low : 2 ^ j ≤ held_node subcube
  pub high : held_node subcube < 2 * 2 ^ j
  pub taken : TakesNode cube (held_node subcube) between subcube
  pub bound : length (subcube_entry subcube).trail ≤ length old.trail + 2 ^ j * (3 + 7 * j)

-- The station searched the whole level, and was refused each node. There is one refusal for each
-- try, and the counts are those of its events.
pub record IsRefusedEach (n j : ℕ) (old new : Entry) (refusal : Refusal) : Type 0 where
  pub peeks : List Peek
  pub tries : List RefusedTry
  pub searches : Searches n j (2 * 2 ^ j) peeks tries old new
  pub few : length tries ≤ 2 ^ j
  pub sum : refusal_sum refusal ≡ length tries
  pub events : refusals_in new.trail ≡ added refusal (refusals_in old.trail)
  pub bound : length new.trail ≤ length old.trail + length tries * (3 + 7 * j)
