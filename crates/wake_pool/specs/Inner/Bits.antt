-- What the steps make of a word of sleepers. SEARCH is the searcher's bit.
use Rattle.std.specs.Prelude.{ℕ, ◌*◌, ◌^◌, ◌%◌, bit_and, bit_or, bit_xor}
use Rattle.std.specs.Int.{bit_not}
use mir.Syntax.{w64}
use Rattle.wake_pool.specs.declared.layout.TheConstants.{SEARCH}

-- the word of a single bit
abbrev pub one_bit : ℕ → ℕ
one_bit bit = 1 * 2 ^ bit % 2 ^ 64

-- the searcher's bit is set, or cleared
abbrev pub claimed : ℕ → ℕ
claimed found = bit_or found SEARCH

abbrev pub left : ℕ → ℕ
left found = bit_and found (bit_not w64 SEARCH)

-- a bit of a sleeper is set, or cleared
abbrev pub rested : ℕ → ℕ → ℕ
rested bit found = bit_or found (one_bit bit)

abbrev pub risen : ℕ → ℕ → ℕ
risen bit found = bit_and found (bit_not w64 (one_bit bit))

-- the searcher's bit and one of a sleeper are turned over
abbrev pub turned : ℕ → ℕ → ℕ
turned bit found = bit_xor found (bit_or SEARCH (one_bit bit))

-- a bit of a sleeper is cleared, and the searcher's is set
abbrev pub woken : ℕ → ℕ → ℕ
woken bit found = bit_or (bit_and found (bit_not w64 (one_bit bit))) SEARCH
