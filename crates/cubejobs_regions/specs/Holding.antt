-- Blocks of a machine that handles hold.
use Rattle.std.specs.Prelude.{◌≡◌, ℕ, Option, Some, None, ◌==◌, if◌then◌else◌, List}
use Rattle.bitmap_tree.specs.Handles.{id_of}
use Rattle.bitmap_tree.specs.declared.view.Note.{Note}
use Rattle.cubejobs_regions.specs.declared.block_handle.BlockHandle.{BlockHandle}
use Rattle.cubejobs_regions.specs.declared.codes.TheConstants.{DONE, NOT_OPEN, NOTHING_HELD, OTHER_MACHINE}
use Rattle.cubejobs_regions.specs.declared.machine.Machine.{Machine}
use Rattle.bitmap_tree.specs.HiddenSeats.{seat_in}
use Rattle.cubejobs_regions.specs.Holds.{hold_of, Hold}
use Rattle.cubejobs_regions.specs.Machine.{dim_of_machine, number_of, tree_of}

-- What is held is a block of this machine.
pub record IsHoldOf (machine : Machine) (hold : Hold) : Type 0 where
  pub number : hold.number ≡ number_of machine
  pub table : hold.seat.table_id ≡ id_of (tree_of machine)
  pub dim : hold.dim ≡ dim_of_machine machine

-- If the block of a handle has the machine's number, it is one of this machine. So it is where no
-- two machines have one number.
abbrev pub IsOfItsNumber : Machine → BlockHandle → Type 0
IsOfItsNumber machine handle =
    (hold : Hold) → hold_of handle ≡ Some hold → hold.number ≡ number_of machine
    → IsHoldOf machine hold

-- The same for a machine's handle, if it is open.
abbrev pub AreNumbered : Option Machine → BlockHandle → Type 0
AreNumbered thread handle = (machine : Machine) → thread ≡ Some machine → IsOfItsNumber machine handle

-- Why a call on a machine that needs a block is refused, by what the handle holds, or `DONE`.
abbrev pub refusal_of_giving : ℕ → Option Hold → ℕ
refusal_of_giving number None = NOTHING_HELD
refusal_of_giving number (Some hold) = if hold.number == number then DONE else OTHER_MACHINE

-- The same for a machine's handle, which must be open.
abbrev pub refusal_of_call : Option Machine → Option Hold → ℕ
refusal_of_call None held = NOT_OPEN
refusal_of_call (Some machine) held = refusal_of_giving (number_of machine) held

-- What the last call on an empty handle found and left by its steps, the newest first.
abbrev pub trail_of : BlockHandle → List Note
trail_of handle = (seat_in handle.seat).me.0.trail
