-- The content at an address may go to another thread, and the address with it.
use Rattle.std.proofs.Common.{Option, Some, None}
use mir.Raw.{raw}
use base.Shift.{Keyless}
use denote.Memory.{lone}
use denote.RawPtr.{Ptr}
use denote.Struct.Struct.{exits_of}
use denote.Struct.Owning.{shape, fields, to}
use denote.Param.Send.{IsSend, AllSend, owning_send, struct_send, sendable}
use Rattle.std.proofs.Crossing as heap
use Rattle.std.specs.Global.{Global}
use Rattle.std_alloc.proofs.SendSync.{quiet, lies}
use Rattle.std_heap.proofs.Global.TheSendSync as handle
use Rattle.cubejobs_lanes.specs.InnerOpaquePtr.{opaque_owns}
use Rattle.cubejobs_lanes.specs.contracts.state.State as State
use Rattle.cubejobs_lanes.proofs.CrossLemmas.{content_send as content}
use Rattle.cubejobs_lanes.specs.contracts.opaque_ptr.OpaquePtr.{the_row, the_type}

crosses : (a : Global) (p : Ptr) (c : Option State.the_row.Denot) → Keyless (opaque_owns a p c)
crosses a p None = tt
crosses a p (Some c) = (lies State.the_row content p c, heap.frees.frees a (raw (lone State.the_row.mir)) p)

pub send : IsSend the_row
send =
    let all : AllSend (fields the_type) = (search sendable, (handle.the_field_send, tt)) in
    owning_send the_type all (λ d. crosses d.alloc d.ptr d.content)
    (λ k. quiet (to the_type) (exits_of k (fields the_type)) ((struct_send (shape the_type) all).leaving k))
