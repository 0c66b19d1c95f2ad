-- Which event answers a take that is refused.
use Rattle.std.specs.Prelude.{ℕ, Option, Some, None}
use Rattle.cube_core.specs.declared.event.Kind.TheVariants.{Look, Claim, Raise}
use Rattle.cube_core.specs.declared.event.Note.TheVariants as note
use Rattle.tree_steps.specs.declared.why.Why.{Why}
use Rattle.tree_steps.specs.declared.why.Why.TheVariants.{InUse, Lost, Under}
use Rattle.tree_steps.specs.declared.view.Entry.{Entry}
use Rattle.tree_steps.specs.Steps.{Answered}

-- The event that refused the take is among the new ones. It is a look that found the node in use, a
-- claim that was lost, or a raise at an occupied ancestor.
abbrev pub IsAnswered : Why → ℕ → Entry → Entry → Type 0
IsAnswered InUse node old new = Answered Look node note.InUse old new
IsAnswered Lost node old new = Answered Claim node note.Lost old new
IsAnswered (Under at) node old new = Answered Raise at.0 note.Under old new

-- The ancestor that a refusal names, if it names one.
abbrev pub ancestor_of : Why → Option ℕ
ancestor_of InUse = None
ancestor_of Lost = None
ancestor_of (Under at) = Some at.0
