-- The steps of a call on the words at most. Those on marks and spares do not count.
use Rattle.bitmap_tree.specs.declared.spares.TheConstants.{SPARES}
use Rattle.std.specs.Prelude.{ℕ, ◌+◌, ◌*◌, ◌-◌, ◌^◌}

-- the words of the lowest level, and so at most those of any
abbrev pub level_words : ℕ → ℕ
level_words n = 2 ^ (n - 6)

-- A take by the marks. Each of its two searches looks at a level at most six times, twice at each
-- word, by nine steps a word. Each spare of three levels that it shuts takes nine steps.
abbrev pub take_steps : ℕ → ℕ
take_steps n = 37 + 3 * (9 * SPARES) + 2 * (6 * (2 * (9 * level_words n)))

-- An exact take: the same, and ten steps for each word of three levels that it shuts. Then it looks
-- at each word of four levels, by at most nine steps.
abbrev pub exact_steps : ℕ → ℕ
exact_steps n = take_steps n + 4 + 3 * (10 * level_words n) + 4 * (9 * level_words n)

-- a take of one block: two ways up, and ten steps for each word below that it shuts
abbrev pub block_steps : ℕ → ℕ
block_steps n = 81 + 3 * (10 * level_words n)

-- a release: two steps on each of four levels
abbrev pub release_steps : ℕ
release_steps = 4 * 2
