-- What a hidden address owns: a content on the heap, or nothing.
use Rattle.std.specs.Prelude.{Option, Some, None}
use base.Fml.{Fml, ftrue}
use base.Stored.{Coded}
use denote.RawPtr.{Ptr}
use denote.RattleType.{RattleType}
use Rattle.std.specs.Box.Ownership.{box_owns}
use Rattle.std.specs.Coded.{coded_option}
use Rattle.std.specs.Global.{Global}
use Rattle.std_heap.specs.contracts.GlobalAllocator.TheImpl.{ghosts}

-- The address owns its content on the heap, if it has one.
abbrev pub hidden_owns : (R : RattleType) → Global → Ptr → Option R.Denot → Fml
hidden_owns R alloc p None = ftrue
hidden_owns R alloc p (Some c) = box_owns (ghosts.dealloc_token alloc) R p c

-- How the content is encoded: as the content, if there is one.
abbrev pub content_coded : (R : RattleType) → Coded (Option R.Denot)
content_coded R = coded_option R.coded
