-- A locked allocator and its handles as plain data.
use Rattle.std.specs.Prelude.{◌≡◌, ℕ, None, List, [], ◌∷◌}
use Rattle.std.specs.List.{All}
use Rattle.atomic_table.specs.Seated.{TableId}
use Rattle.cube_shape.specs.declared.region.Region.{Region}
use Rattle.cube_shape.specs.Region.{IsAligned}
use Rattle.alloc_bits.specs.Allocation.{held_in}
use Rattle.locked_peers.specs.Handle.{table_of as table_of_cell, key_of}
use Rattle.locked_peers.specs.declared.floor_view.Size.{Size}
use Rattle.locked_peers.specs.declared.floor_lock.BitsLock.{BitsLock}
use Rattle.locked_peers.specs.declared.floor_handle.LockedStation.{LockedStation}
use Rattle.locked_peers.specs.declared.floor_handle.Held.{Held}
use Rattle.locked_peers.specs.declared.floor_handle.FreeMachine.{FreeMachine}
use Rattle.floors.specs.Floor.{FloorId}
use Rattle.locked_peers.specs.InnerFloor.Step.{Sat, station_in}

-- The table of a lock.
abbrev pub table_of : BitsLock → TableId
table_of lock = table_of_cell lock.cell

-- The size of the machine under a lock.
abbrev pub size_of : BitsLock → Size
size_of lock = key_of lock.cell

-- The identity of the allocator under a lock.
abbrev pub floor_id : BitsLock → FloorId
floor_id lock =
    record {
      tables = table_of lock ∷ [];
      dim = (size_of lock).dim;
      stations =
          (size_of lock).stations;
    }

-- A seat with this table and this size belongs to the allocator.
abbrev pub IsOf : FloorId → TableId → Size → Type 0
IsOf id table about =
    (id.tables ≡ table ∷ []) × (about.dim ≡ id.dim) × (about.stations ≡ id.stations)

-- The blocks that the station of a seat was granted, in order.
abbrev pub grants_in : Sat → List Region
grants_in m = (station_in m.0.stations).grants

-- The blocks that a station was granted, in order.
abbrev pub grants_of : LockedStation → List Region
grants_of station = grants_in station.seat.me

-- The blocks that the station of a held block was granted, in order.
abbrev pub held_grants : Held → List Region
held_grants held = grants_in held.seat.me

-- The station's seat belongs to the allocator.
abbrev pub is_seated : FloorId → LockedStation → Type 0
is_seated id station = IsOf id station.seat.table_id station.seat.me.0.about

-- The station belongs to the allocator, and each block that it was granted is aligned.
abbrev pub is_station : FloorId → LockedStation → Type 0
is_station id station = is_seated id station × All (IsAligned id.dim) (grants_of station)

-- The station of the held block belongs to the allocator, and each block that it was granted is
-- aligned.
abbrev pub is_held : FloorId → Held → Type 0
is_held id held =
    IsOf id held.seat.table_id held.seat.me.0.about × All (IsAligned id.dim) (held_grants held)

-- The block that is held.
abbrev pub held_region : Held → Region
held_region held = held.region

-- The dimension of the machine at the end.
abbrev pub machine_dim : FreeMachine → ℕ
machine_dim machine = machine.bits.dim

-- The words of the machine at the end.
abbrev pub machine_words : FreeMachine → List ℕ
machine_words machine = machine.words.items

-- No station holds a block by the machine's allocation bits, whatever the count of stations.
abbrev pub AreBitsFree : ℕ → FreeMachine → Type 0
AreBitsFree count machine = (s : ℕ) → held_in machine.bits s ≡ None
