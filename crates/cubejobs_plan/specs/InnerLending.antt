-- What the pointer of a handle becomes by a write to its content.
use Rattle.std.specs.Prelude.{Some}
use Rattle.std.specs.Borrow.{Lends, MutBor, Fml}
use Rattle.cubejobs_plan.specs.declared.opaque_ptr.OpaquePtr.{OpaquePtr}
use Rattle.cubejobs_plan.specs.declared.planner.Planner.{Planner}
use Rattle.cubejobs_plan.specs.contracts.opaque_ptr.OpaquePtr.{the_row as pointer}
use Rattle.cubejobs_plan.specs.contracts.planner.Planner.{the_row as content}

-- The pointer with another content.
abbrev pub with_content : OpaquePtr → Planner → OpaquePtr
with_content p inside = record p { content = Some inside }

-- The pointer ends with the last value that is written through the reference.
abbrev pub lends_content : MutBor OpaquePtr → MutBor Planner → Fml
lends_content p r = Lends pointer content p r (with_content p.now)
