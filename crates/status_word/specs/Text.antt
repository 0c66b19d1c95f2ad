-- The text of a word: the letters of its bits of use, then its marks by rising station.
use Rattle.std.specs.Prelude.{ℕ, ◌==◌, List, [], ◌++◌, codes, if◌then◌else◌}
use Rattle.std.specs.List.{flat_map, range_with_len}
use Rattle.std.specs.Int.{bit_at}
use Rattle.std.specs.Fmt.{decimal}
use Rattle.cube_shape.specs.declared.limits.TheConstants.{MAX_STATIONS}
use Rattle.status_word.specs.Word.{use_of, mark_bit}

-- The text if the bit is set, else nothing.
abbrev pub text_if : ℕ → ℕ → List ℕ → List ℕ
text_if w bit text = if bit_at w bit == 1 then text else []

-- The letters `O`, `L` and `R` for the bits of use that are set, or a dash for none.
abbrev pub use_text : ℕ → List ℕ
use_text w = if use_of w == 0 then codes "-"
    else text_if w 0 (codes "O") ++ text_if w 1 (codes "L") ++ text_if w 2 (codes "R")

-- A plus sign and the station's number, if its mark is set.
abbrev pub mark_text : ℕ → ℕ → List ℕ
mark_text w station = text_if w (mark_bit station) (codes "+" ++ decimal station)

-- The text of a word: that of its bits of use, then that of each mark by rising station.
abbrev pub word_text : ℕ → List ℕ
word_text w = use_text w ++ flat_map (mark_text w) (range_with_len 0 MAX_STATIONS)
