-- The box that a handle of this library hides.
use denote.Signature.{Slot, plain}
use Rattle.hidden_box.proofs.AsBox.{boxed}
use Rattle.hidden_box.specs.contracts.parts.Parts as Parts
use Rattle.std_alloc.proofs.BoxSteps.Form.{Bx}
use Rattle.std_heap.specs.contracts.Global as Heap
use Rattle.std_heap.specs.contracts.GlobalAllocator.TheImpl.{ghosts}
use Rattle.cubejobs_lanes.specs.contracts.opaque_ptr.OpaquePtr as OpaquePtr
use Rattle.cubejobs_lanes.specs.contracts.state.State as State
use Rattle.cubejobs_lanes.proofs.state.State.TheLaws as content

abbrev pub E : Bx
E = boxed State.the_row content.the_row_laws

abbrev pub FromParts : Slot 0
FromParts = plain (λ _. Parts.the_row State.the_row Heap.the_row ghosts)

abbrev pub FromOpaquePtr : Slot 0
FromOpaquePtr = plain (λ _. OpaquePtr.the_row)
