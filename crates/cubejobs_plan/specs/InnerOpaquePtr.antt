-- What the pointer that C keeps owns, and how its content is encoded.
use Rattle.std.specs.Prelude.{Bool, true, false, Option, Some, None}
use mir.Syntax.{Ty}
use base.Fml.{Fml, ftrue}
use base.Stored.{Coded}
use denote.RattleType.{RattleType}
use denote.RawPtr.{Ptr}
use Rattle.std.specs.Box.Ownership.{box_owns}
use Rattle.std.specs.Global.{Global}
use Rattle.std_heap.specs.contracts.GlobalAllocator.TheImpl.{ghosts}
use Rattle.hidden_box.specs.Hidden as hidden
use Rattle.cubejobs_plan.specs.contracts.planner.Planner.{the_row}

abbrev pub planner_row : RattleType
planner_row = the_row

-- The right to free the place of a content: none for words that the caller lent.
abbrev pub place_token : Bool → Global → Ty → Ptr → Fml
place_token true = λ _ _ _. ftrue
place_token false = ghosts.dealloc_token

-- The address owns its content in that place, if it has one.
abbrev pub opaque_owns : Bool → Global → Ptr → Option the_row.Denot → Fml
opaque_owns lent alloc p None = ftrue
opaque_owns lent alloc p (Some c) = box_owns (place_token lent alloc) the_row p c

abbrev pub content_coded : Coded (Option the_row.Denot)
content_coded = hidden.content_coded the_row
