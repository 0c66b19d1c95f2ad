-- The parse of a file: a row for each of its records in file order, or the first fault. Nothing is
-- checked after the first fault. A format is its parse of a header and its parse of any other
-- record.
use Rattle.std.specs.Prelude.{ℕ, ◌+◌, List, [], ◌∷◌, nat_lt, Result, Ok, Err, if◌then◌else◌}
use Rattle.csv.specs.Reading.{default_config, records, strip_bom}
use Rattle.jobs_csv.specs.declared.fault.Fault.{Fault}
use Rattle.jobs_csv.specs.declared.fault.FaultKind.{FaultKind}
use Rattle.jobs_csv.specs.declared.fault.FaultKind.TheVariants as what
use Rattle.jobs_csv.specs.declared.input.TheConstants.{MAX_RECORDS}
use Rattle.jobs_csv.specs.Outcome.{◌>>=◌}

-- A record: the list of its fields, which are lists of bytes.
abbrev pub Record : Type 0
Record = List (List ℕ)

-- The result of a record's parse. A fault gets the number of the record.
abbrev pub at_row : {A : Type 0} → ℕ → Result A FaultKind → Result A Fault
at_row number (Ok x) = Ok x
at_row number (Err w) = Err (record { row = number; what = w })

-- The row of the record of this number, unless the file has too many records.
abbrev pub numbered_row : {Row : Type 0}
    → (Record → Result Row FaultKind)
    → ℕ
    → Record
    → Result Row Fault
numbered_row row_of number fields =
    if nat_lt MAX_RECORDS number then Err (record { row = number; what = what.TooMany }) else at_row
    number (row_of fields)

-- The rows of these records, or the first fault. The first record has the given number.
unfoldable pub rows_from : {Row : Type 0}
    → (Record → Result Row FaultKind)
    → ℕ
    → List Record
    → Result (List Row) Fault
rows_from row_of number [] = Ok []
rows_from row_of number (fields ∷ records) = do
  row ← numbered_row row_of number fields
  rows ← rows_from row_of (number + 1) records
  Ok (row ∷ rows)

-- The rows of a file that is given as its records, or its first fault. The header is record 0. A
-- file must have one.
unfoldable pub file_of : {Row : Type 0}
    → (Record → Result (Unit {0}) FaultKind)
    → (Record → Result Row FaultKind)
    → List Record
    → Result (List Row) Fault
file_of header_of row_of [] = Err (record { row = 0; what = what.Fields })
file_of header_of row_of (header ∷ records) =
    at_row 0 (header_of header) >>= (λ good. rows_from row_of 1 records)

-- The parse of a file of these bytes: a row for each record after a good header, or the first fault
-- with its record's number. The records are those that `csv` gives for the bytes in its default
-- dialect, without a byte order mark. After the header there are at most `MAX_RECORDS`.
abbrev pub parse_file : {Row : Type 0}
    → (Record → Result (Unit {0}) FaultKind)
    → (Record → Result Row FaultKind)
    → List ℕ
    → Result (List Row) Fault
parse_file header_of row_of bytes =
    file_of header_of row_of (records default_config (strip_bom bytes))
