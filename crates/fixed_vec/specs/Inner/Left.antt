-- How many words of a store are left.
use Rattle.std.specs.Prelude.{ℕ, Option, None, Some}
use Rattle.fixed_vec.specs.declared.chunk.Chunk.{Chunk}

-- That of the chunk, if words are lent.
abbrev pub words_left : Option Chunk → Option ℕ
words_left None = None
words_left (Some c) = Some c.words
