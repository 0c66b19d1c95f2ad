-- The words of the levels, their bits, and runs of bits.
use Rattle.std.specs.Prelude.{ℕ, zero, suc, ◌+◌, ◌-◌, ◌*◌, ◌/◌, ◌%◌, ◌^◌, min, List, slice_index_or}
use Rattle.std.specs.Int.{bit_at}
use Rattle.bitmap_tree.specs.declared.view.Run.{Run}

-- The first word of the level that has this number of levels above it. The words are numbered so
-- that the word under the bit q is word q + 1. The bit q is bit q % 64 of the word q / 64.
abbrev pub first_word : ℕ → ℕ
first_word zero = 0
first_word (suc above) = 64 * first_word above + 1

-- how many words a machine of dimension n has
abbrev pub word_count : ℕ → ℕ
word_count n = first_word (n / 6) + 2 ^ (n - 6)

-- the bit of a place; words that are not there are shut
abbrev pub bit_of : List ℕ → ℕ → ℕ
bit_of words q = bit_at (slice_index_or words (q / 64) 18446744073709551615) (q % 64)

-- The run of this number of places from a base on.
abbrev pub run : ℕ → ℕ → Run
run base len = record { base = base; len = len }

-- 1 where the run has the place q, and 0 else
abbrev pub has : ℕ → Run → ℕ
has q r = min (1 - (r.base - q)) (min 1 (r.base + r.len - q))
