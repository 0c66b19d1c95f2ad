-- The text of a file of rows: its lines, and the fields that may be nothing.
use Rattle.std.specs.Prelude.{◌≡◌, ℕ, false, List, [], ◌∷◌, ◌++◌, codes, Option, Some, None, All}
use Rattle.std.specs.List.{flat_map, join_with_byte}
use Rattle.std.specs.Fmt.{decimal}
use Rattle.csv.specs.Writing.{default_writer, needs_byte}

-- A line: its fields with a comma between each two, and a line feed.
unfoldable pub line_of : List (List ℕ) → List ℕ
line_of fields = join_with_byte 44 fields ++ (10 ∷ [])

-- A file of rows: a line for the header, and one for each row.
abbrev pub file_text : {Row : Type 0} → List (List ℕ) → (Row → List (List ℕ)) → List Row → List ℕ
file_text columns fields rows = line_of columns ++ flat_map (λ row. line_of (fields row)) rows

-- The text of a number, or a dash if there is none.
abbrev pub number_text : Option ℕ → List ℕ
number_text None = codes "-"
number_text (Some value) = decimal value

-- The field needs no quotes, since no byte of it does.
pub record IsPlainField (field : List ℕ) : Type 0 where
  pub each : All (λ byte. needs_byte default_writer byte ≡ false) field
