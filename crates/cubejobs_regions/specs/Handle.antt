-- What a contract sees of the handles that C keeps.
use Rattle.std.specs.Prelude.{ℕ, List, Option, Some, None, ◌==◌, if◌then◌else◌}
use Rattle.atomic_table.specs.Seated.{TableId}
use Rattle.bitmap_tree.specs.declared.view.Note.{Note}
use Rattle.cubejobs_regions.specs.declared.codes.TheConstants.{ALREADY_OPEN, DONE, HOLDS_ALREADY, NOT_OPEN, OPEN, OTHER_KIND}
use Rattle.cubejobs_regions.specs.declared.block_handle.BlockHandle.{BlockHandle}
use Rattle.cubejobs_regions.specs.declared.handle.Handle.{Handle}
use Rattle.cubejobs_regions.specs.declared.machine.Machine.{Machine}
use Rattle.bitmap_tree.specs.HiddenSeats.{seat_in}
use Rattle.cubejobs_regions.specs.MachineIn.{machine_in}
use Rattle.cubejobs_regions.specs.Tags.{is_held}

-- The machine of a handle, if it is open.
abbrev pub machine_of : Handle → Option Machine
machine_of handle = machine_in handle.ptr.content

-- The table of the seat that the handle keeps: of the last call that was to free the machine, or
-- counted what is free.
abbrev pub last_table : Handle → TableId
last_table handle = (seat_in handle.seat).table_id

-- What the steps of this call found and left, the newest first.
abbrev pub last_trail : Handle → List Note
last_trail handle = (seat_in handle.seat).me.0.trail

-- Why a handle cannot be opened, or `DONE`: it is open, or it holds a block.
abbrev pub refusal_of_opening : Handle → ℕ
refusal_of_opening handle =
    if handle.tag == OPEN then ALREADY_OPEN else (if is_held handle.tag then OTHER_KIND else DONE)

-- Why no block can be put into a handle, or `DONE`: it is that of an open machine, or it holds a
-- block.
abbrev pub refusal_of_filling : BlockHandle → ℕ
refusal_of_filling handle =
    if handle.tag == OPEN then OTHER_KIND else (if is_held handle.tag then HOLDS_ALREADY else DONE)

-- Why a take on a machine's handle, which must be open, cannot fill this one, or `DONE`.
abbrev pub refusal_of_take : Option Machine → BlockHandle → ℕ
refusal_of_take None handle = NOT_OPEN
refusal_of_take (Some machine) handle = refusal_of_filling handle
