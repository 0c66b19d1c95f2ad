-- Names of held blocks.
use Rattle.std.specs.Prelude.{ℕ, ◌&&◌, ◌||◌, Bool, List, length, nat_lt}
use Rattle.std.specs.List.{list_all}
use Rattle.std.specs.Char.{is_ascii_digit, is_ascii_lowercase}

-- Whether the text is a name: 1 to 16 bytes, each a small letter or a digit.
abbrev pub is_name : List ℕ → Bool
is_name text =
    nat_lt 0 (length text) && nat_lt (length text) 17 && list_all
    (λ byte. is_ascii_lowercase byte || is_ascii_digit byte) text
