-- Words of memory, and which values fit them.
use Rattle.std.specs.Prelude.{ℕ, ◌*◌, ◌≤◌}
use mir.Syntax.{Ty, w64, ty_int, ty_array}
use base.Fml.{Fml}
use prog.Memory.{align}
use prog.Align.{Dv}
use denote.RattleType.{RattleType}
use denote.Memory.{lone}
use denote.RawPtr.{Ptr, room_for}
use Rattle.std_alloc.specs.Vec.Ownership.{owns_if, has_block}
use Rattle.core.specs.Mem.{type_size}

-- This many words of 8 bytes, as a type.
abbrev pub words_of : ℕ → Ty
words_of n = ty_array (ty_int w64) n

-- Room for them at an address, if there are any.
abbrev pub chunk_owns : Ptr → ℕ → Fml
chunk_owns p n = owns_if (has_block n) (room_for (words_of n) p)

-- This many values take at most these words, and are aligned as words are.
pub record FitsWords (R : RattleType) (count words : ℕ) : Type 0 where
  pub size : count * type_size R ≤ words * 8
  pub aligned : Dv (align (lone R.mir)) 8
