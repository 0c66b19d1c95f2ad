-- Things one after the other, each of which makes a step from one state to the next.
use Rattle.std.specs.Prelude.{◌≡◌, List, [], ◌∷◌, ◌++◌}

-- The step of one thing: the state before it, the state after it, and its rows.
abbrev pub StepRelation : Type 0 → Type 0 → Type 0 → Type 1
StepRelation Thing State Row = Thing → State → State → List Row → Type 0

-- The things one after the other, from the first state to the last, with all their rows.
abbrev pub IsTrace : {Thing State Row : Type 0}
    → StepRelation Thing State Row
    → List Thing
    → State
    → State
    → List Row
    → Type 0
IsTrace becomes [] first last rows = (last ≡ first) × (rows ≡ [])
IsTrace {State = State} {Row = Row} becomes (thing ∷ things) first last rows =
    (next : State) × (told : List Row) × (more : List Row) × becomes thing first next told
    × IsTrace becomes things next last more × (rows ≡ told ++ more)
