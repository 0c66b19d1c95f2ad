-- What contracts say of a machine and of what is held in it.
use Rattle.std.specs.Prelude.{◌≡◌, ℕ, ◌<◌, List}
use Rattle.atomic_table.specs.Seated.{TableId}
use Rattle.cube_shape.specs.declared.region.Region.{Region}
use Rattle.bitmap_tree.specs.declared.handles.BitmapTree.{BitmapTree}
use Rattle.bitmap_tree.specs.declared.handles.HeldBlock.{HeldBlock}
use Rattle.bitmap_tree.specs.declared.handles.Refused.{Refused}
use Rattle.bitmap_tree.specs.declared.handles.Permit.{Permit}
use Rattle.bitmap_tree.specs.declared.handles.Released.{Released}
use Rattle.bitmap_tree.specs.Layout.{Known}
use Rattle.bitmap_tree.specs.declared.view.Note.{Note}
use Rattle.bitmap_tree.specs.Seats.{SeatOf}

-- The identity of a machine: that of its table of words.
abbrev pub id_of : BitmapTree → TableId
id_of machine = machine.bits.table.shared.table_id

-- The dimension of a machine.
abbrev pub dim_of : BitmapTree → ℕ
dim_of machine = machine.size.dim

-- how many permits it has
abbrev pub permits_of : BitmapTree → ℕ
permits_of machine = machine.size.permits

-- a seat may claim: it has a permit, where there are any
abbrev pub MayClaim : BitmapTree → Known → Type 0
MayClaim machine m = 0 < permits_of machine → 0 < m.0.permits

-- The block that is held.
abbrev pub held_region : HeldBlock → Region
held_region held = held.region

-- The dimension of the machine in which it is held.
abbrev pub held_dim : HeldBlock → ℕ
held_dim held = held.dim

-- The seat that has it.
abbrev pub held_seat : HeldBlock → SeatOf
held_seat held = held.seat

-- what is held is of this machine
abbrev pub IsHeldOf : BitmapTree → HeldBlock → Type 0
IsHeldOf machine held =
    (held.seat.table_id ≡ id_of machine)
    × (held.dim ≡ dim_of machine)
    × MayClaim machine held.seat.me

-- what the steps of the take found by which it is held, the newest first
abbrev pub held_trail : HeldBlock → List Note
held_trail held = held.seat.me.0.trail

-- What the steps of a refused take found and left, the newest first.
abbrev pub refused_trail : Refused → List Note
refused_trail refused = refused.seat.me.0.trail

-- what the steps of the take and of the release found and left, the newest first
abbrev pub released_trail : Released → List Note
released_trail released = released.seat.me.0.trail

-- the permit is one of this machine
abbrev pub IsPermitOf : BitmapTree → Permit → Type 0
IsPermitOf machine permit = permit.seat.table_id ≡ id_of machine

-- what the steps of its last take found
abbrev pub permit_trail : Permit → List Note
permit_trail permit = permit.seat.me.0.trail

-- what is held by one permit of the machine
abbrev pub IsHeldByPermit : BitmapTree → HeldBlock → Type 0
IsHeldByPermit machine held = IsHeldOf machine held × (held.seat.me.0.permits ≡ 1)
