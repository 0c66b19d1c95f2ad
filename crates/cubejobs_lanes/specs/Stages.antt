-- Whether lanes are closed.
use Rattle.std.specs.Prelude.{◌≡◌, List, ℕ}
use Rattle.lanes.specs.Lanes.{LanesId, MembersOf}
use Rattle.cubejobs_lanes.specs.declared.kept.KeptNote.{KeptNote}
use Rattle.cubejobs_lanes.specs.declared.stage.Stage.{Stage}
use Rattle.cubejobs_lanes.specs.declared.stage.Stage.TheVariants.{Open, Closed}

-- It is the stage of these lanes.
abbrev pub IsStageOf : LanesId → Stage → Type 0
IsStageOf id stage = ((members : MembersOf) → stage ≡ Open members → (members.id ≡ id)
    × (members.dealt_lanes ≡ id.plan.sizes.lanes)
    × (members.dealt_workers ≡ id.plan.sizes.workers))
    × ((kept : KeptNote) → stage ≡ Closed kept → kept.note.id ≡ id)

-- The lanes are open.
abbrev pub IsOpen : Stage → Type 0
IsOpen (Open members) = Unit {0}
IsOpen (Closed kept) = ⊥

-- The lanes were closed at these counts of accepted jobs.
abbrev pub IsClosedAt : List ℕ → Stage → Type 0
IsClosedAt counts (Open members) = ⊥
IsClosedAt counts (Closed kept) = kept.note.counts ≡ counts

-- The lanes are closed.
abbrev pub IsClosed : Stage → Type 0
IsClosed (Open members) = ⊥
IsClosed (Closed kept) = Unit {0}
