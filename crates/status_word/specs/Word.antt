-- Status words: numbers, seen by the tests of their bits.
use Rattle.std.specs.Prelude.{◌≡◌, ◌≢◌, ℕ, ◌+◌, ◌^◌, Bool, true, false, bit_and, bit_or}
use Rattle.std.specs.Int.{bit_at}
use Rattle.cube_shape.specs.declared.node.Side.{Side}
use Rattle.cube_shape.specs.declared.node.Side.TheVariants.{Left, Right}

-- The number of the bit of a side: 1 for LEFT and 2 for RIGHT.
abbrev pub side_bit : Side → ℕ
side_bit Left = 1
side_bit Right = 2

-- The number of the bit of a station's mark.
abbrev pub mark_bit : ℕ → ℕ
mark_bit station = 8 + station

-- The bit of the word is 1.
abbrev pub IsSet : ℕ → ℕ → Type 0
IsSet w bit = bit_at w bit ≡ 1

-- Two words agree in all bits except one.
abbrev pub SameElsewhere : ℕ → ℕ → ℕ → Type 0
SameElsewhere bit old new = (i : ℕ) → i ≢ bit → bit_at new i ≡ bit_at old i

-- A station has claimed exactly the block of the word's node: bit 0 (OCC) is set.
abbrev pub IsOccupied : ℕ → Type 0
IsOccupied w = IsSet w 0

-- Something in this half of the block may be in use: the bit of the side is set.
abbrev pub HasSide : Side → ℕ → Type 0
HasSide side w = IsSet w (side_bit side)

-- The mark of a station is set.
abbrev pub IsMarked : ℕ → ℕ → Type 0
IsMarked station w = IsSet w (mark_bit station)

-- The three bits of use: OCC, LEFT and RIGHT.
abbrev pub use_of : ℕ → ℕ
use_of w = bit_and w 7

-- The word is free: no bit of use is set, whatever its marks are.
abbrev pub IsFree : ℕ → Type 0
IsFree w = use_of w ≡ 0

-- The word is in use: some bit of use is set.
abbrev pub IsInUse : ℕ → Type 0
IsInUse w = use_of w ≢ 0

-- The word with one side more.
abbrev pub with_side : Side → ℕ → ℕ
with_side side w = bit_or w (2 ^ side_bit side)

-- The word with one mark more.
abbrev pub with_mark : ℕ → ℕ → ℕ
with_mark station w = bit_or w (2 ^ mark_bit station)

-- The bits of use that stay if the sides whose child was seen free are removed.
abbrev pub kept_bits : Bool → Bool → ℕ
kept_bits false false = 7
kept_bits true false = 5
kept_bits false true = 3
kept_bits true true = 1

-- The word without its marks, and without each side whose child was seen free.
abbrev pub cleared : ℕ → Bool → Bool → ℕ
cleared w left_free right_free = bit_and w (kept_bits left_free right_free)
