-- The box that a handle of this library hides.
use Rattle.std.specs.Prelude.{Bool}
use mir.Syntax.{impl, tnil, dnil}
use mathlib.Core.List.{[]}
use denote.Signature.{Slot, plain}
use Rattle.hidden_box.specs.contracts.parts.Parts as Parts
use Rattle.std_alloc.proofs.BoxSteps.Form.{Bx}
use Rattle.std_heap.specs.contracts.Global as Heap
use Rattle.std_heap.specs.contracts.GlobalAllocator.TheImpl.{ghosts, dict}
use Rattle.std_heap.proofs.Global.TheLaws as heap
use Rattle.cubejobs_plan.specs.InnerOpaquePtr.{place_token}
use Rattle.cubejobs_plan.specs.contracts.opaque_ptr.OpaquePtr as OpaquePtr
use Rattle.cubejobs_plan.specs.contracts.planner.Planner as Planner
use Rattle.cubejobs_plan.proofs.planner.Planner.TheLaws as content

-- in words that the caller lent, or on the heap
abbrev pub boxed : Bool → Bx
boxed lent = record { row = Planner.the_row; laws = content.the_row_laws; al = record { row = Heap.the_row; laws = heap.the_row_laws; g = record { dealloc_token = place_token lent }; d = dict; drops = impl [] tnil dnil } }

abbrev pub FromParts : Slot 0
FromParts = plain (λ _. Parts.the_row Planner.the_row Heap.the_row ghosts)

abbrev pub FromOpaquePtr : Slot 0
FromOpaquePtr = plain (λ _. OpaquePtr.the_row)
