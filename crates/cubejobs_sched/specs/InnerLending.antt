-- What the pointer of a handle becomes by a write to its content.
use Rattle.std.specs.Prelude.{Some}
use Rattle.std.specs.Borrow.{Lends, MutBor, Fml}
use Rattle.cubejobs_sched.specs.declared.opaque_ptr.OpaquePtr.{OpaquePtr}
use Rattle.cubejobs_sched.specs.declared.state.State.{State}
use Rattle.cubejobs_sched.specs.contracts.opaque_ptr.OpaquePtr.{the_row as pointer}
use Rattle.cubejobs_sched.specs.contracts.state.State.{the_row as content}

-- The pointer with another content.
abbrev pub with_content : OpaquePtr → State → OpaquePtr
with_content p inside = record p { content = Some inside }

-- The pointer ends with the last value that is written through the reference.
abbrev pub lends_content : MutBor OpaquePtr → MutBor State → Fml
lends_content p r = Lends pointer content p r (with_content p.now)
