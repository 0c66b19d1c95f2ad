-- What a seat that has all stations learns of a word, and how the record of one of them is moved to
-- the front.
use Rattle.std.specs.Prelude.{◌≡◌, ◌≢◌, ℕ, ◌<◌, ◌≤◌, ◌==◌, if◌then◌else◌, true, ◌⊎◌, ◌↔◌, List, [], ◌∷◌, ◌++◌, All, Any}
use Rattle.cube_shape.specs.declared.node.Side.{Side}
use Rattle.cube_shape.specs.Node.{OnPath, child_of}
use Rattle.status_word.specs.Word.{IsOccupied, HasSide, IsFree, IsInUse}
use Rattle.cube_core.specs.declared.phase.Phase.TheVariants.{Looking, Holding}
use Rattle.cube_core.specs.Phase.{IsAtRest, IsEngagedAt, IsMarkedAt, Owns}
use Rattle.tree_steps.specs.declared.view.Entry.{Entry}
use Rattle.tree_steps.specs.Rule.{others, times}
use Rattle.tree_steps.specs.Steps.{Known, Telling, begin, first_of, step_at}

-- All stations are known to be with this seat, all except the first of them at rest.
abbrev pub IsAlone : Known → Type 0
IsAlone m = m.0.alone ≡ true

-- One of these stations holds a node that is on the path to `v`, or `v` is on the path to that
-- node.
abbrev pub IsBlocked : ℕ → List Entry → Type 0
IsBlocked v entries = Any (λ e. (h : ℕ) × (e.phase ≡ Holding h) × (OnPath v h ⊎ OnPath h v)) entries

-- One of these stations holds node `v`.
abbrev pub HasHolder : ℕ → List Entry → Type 0
HasHolder v entries = Any (λ e. e.phase ≡ Holding v) entries

-- What the word found at node `v` says of these stations, if they are all stations and all at rest.
pub record TellsWord (v found : ℕ) (entries : List Entry) : Type 0 where
  -- The word is 0 exactly if no station holds `v` or a node under it.
  pub zero : (found ≡ 0) ↔ ((h : ℕ) → OnPath v h → HasHolder h entries → ⊥)
  -- The word is not occupied exactly if no station holds `v`.
  pub unoccupied : (IsOccupied found → ⊥) ↔ (HasHolder v entries → ⊥)
  -- The word has the side of each child at which, or under which, a station holds a node.
  pub sides : (side : Side) (h : ℕ)
      → OnPath (child_of v side) h
      → HasHolder h entries
      → HasSide side found

-- What is learned from a load that changes nothing. A seat that has all stations, at rest, learns
-- what the word says of them.
abbrev pub tells_word : Telling
tells_word step before found after =
    (after ≡ before) × (IsAlone before → IsAtRest (first_of before).phase → 0 < step.word
    → TellsWord step.word found before.0.stations)

-- What the word found at node `v` says of these stations, if they are all stations.
pub record MeansWord (v found : ℕ) (entries : List Entry) : Type 0 where
  pub in_use : IsInUse found → Any (λ e. IsEngagedAt e.phase v) entries
  pub occupied : IsOccupied found → Any (λ e. Owns e.phase v) entries
  pub marked : IsFree found → found ≢ 0 → Any (λ e. IsMarkedAt e.phase v) entries
  pub resting : All (λ e. IsAtRest e.phase) (others entries)

-- The seat after a step at node `v` is the expected one. A seat that has all stations also learns
-- what the word means.
pub record Learns (v found : ℕ) (before after expected : Known) : Type 0 where
  pub seat : after ≡ expected
  pub word : IsAlone before → 0 < v → MeansWord v found before.0.stations

-- What is learned from a load by which the first station begins a take of the node, and looks at
-- it.
abbrev pub makes_look : Telling
makes_look step before found after =
    Learns step.word found before after (step_at found (begin (Looking step.word) before))

-- What is learned from a step by which the first station makes the event of its phase.
abbrev pub learns_next : Telling
learns_next step before found after = Learns step.word found before after (step_at found before)

-- The record of station `s`, alone in a list.
abbrev pub picked : ℕ → List Entry → List Entry
picked s [] = []
picked s (e ∷ rest) = if e.station == s then e ∷ [] else picked s rest

-- The records without that of station `s`.
abbrev pub unpicked : ℕ → List Entry → List Entry
unpicked s [] = []
unpicked s (e ∷ rest) = if e.station == s then rest else e ∷ unpicked s rest

-- The seat with the record of station `s` at the front. It is known to have all stations.
abbrev pub turned_to : ℕ → Known → Known
turned_to s m = (
  record {
    stations = picked s m.0.stations
        ++ unpicked s m.0.stations;
    loads = m.0.loads;
    alone = true;
  },
  m.1,
)

-- The seat after a turn to station `s`. The seat before it has no station twice.
pub record Turns (s : ℕ) (before after : Known) : Type 0 where
  pub seat : after ≡ turned_to s before
  pub once : (t : ℕ) → times t before.0.stations ≤ 1

-- What is learned from a turn. The station is the number that is exchanged for itself.
abbrev pub makes_turn : Telling
makes_turn step before found after = Turns step.first before after

-- Each station below the count is with this seat, and all of them are at rest.
pub record AreAllAtRest (count : ℕ) (m : Known) : Type 0 where
  pub present : (s : ℕ) → s < count → 0 < times s m.0.stations
  pub resting : All (λ e. IsAtRest e.phase) m.0.stations
