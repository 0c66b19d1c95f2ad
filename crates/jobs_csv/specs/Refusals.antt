-- The refused records of a file, and the rows that list them.
use Rattle.std.specs.Prelude.{◌≡◌, ℕ, ◌+◌, ◌++◌, List, [], ◌∷◌, codes, length, map, take, Option, Some, None, IfOk, IfSome, Result, Ok, Err, option_map, slice_get, string_bytes}
use Rattle.std.specs.Fmt.{decimal}
use Rattle.std.specs.Io.KnownBytes.{Appends}
use Rattle.std.specs.List.{flat_map}
use Rattle.std.specs.Str.Lossy.{utf8_lossy}
use Rattle.csv.specs.Reading.{default_config, records, strip_bom}
use Rattle.csv.specs.Records.{field_at}
use Rattle.csv.specs.Writing.{default_writer, row_text}
use Rattle.jobs_csv.specs.declared.bad_field.Column.{Column}
use Rattle.jobs_csv.specs.declared.fault.Fault.{Fault}
use Rattle.jobs_csv.specs.declared.fault.FaultKind.{FaultKind}
use Rattle.jobs_csv.specs.declared.fault.FaultKind.TheVariants as what
use Rattle.jobs_csv.specs.declared.input.TheConstants.{MAX_RECORDS}
use Rattle.jobs_csv.specs.declared.refusal_rows.RefusalRow.{RefusalRow}
use Rattle.jobs_csv.specs.declared.refusal_rows.TheConstants.{MAX_SHOWN}
use Rattle.jobs_csv.specs.declared.bad_field.Column.TheVariants as column
use Rattle.jobs_csv.specs.BadFields.{bad_command_field, bad_job_column, bad_job_field, bad_line_field, bad_of_three, column_index, column_text}
use Rattle.jobs_csv.specs.Columns.{header_of}
use Rattle.jobs_csv.specs.Fault.{kind_text}
use Rattle.jobs_csv.specs.Files.{Record, numbered_row, parse_file}
use Rattle.jobs_csv.specs.Jobs.{job_of}
use Rattle.jobs_csv.specs.Place.{command_of}
use Rattle.jobs_csv.specs.Schedule.{schedule_line}

-- A refused record: its number and fault, the column of the field at fault, and what is shown of
-- that field. A fault of the whole record has no such field.
pub record Refusal : Type 0 where
  pub fault : Fault
  pub column : Option Column
  pub text : List ℕ

-- The column, if the fault is one of a field.
abbrev pub column_if : FaultKind → Option Column → Option Column
column_if what.Number column = column
column_if what.Word column = column
column_if _ column = None

-- What is shown of a field: its first bytes as UTF-8, each error replaced.
abbrev pub shown : Option (List ℕ) → List ℕ
shown None = []
shown (Some field) = utf8_lossy (take MAX_SHOWN field)

-- The field of the column in a record, if there is one.
abbrev pub field_in : Record → Option Column → Option (List ℕ)
field_in fields None = None
field_in fields (Some column) = field_at fields (column_index column)

-- The refusal of a record for a fault, where this column would be at fault.
abbrev pub refused : Record → Fault → Option Column → Refusal
refused fields fault column =
    let at = column_if fault.what column in
    record { fault = fault; column = at; text = shown (field_in fields at) }

-- The refusal of a record by its parse, if the parse refuses it.
abbrev pub refused_by : {A : Type 0} → Record → Option Column → Result A Fault → List Refusal
refused_by fields column (Ok row) = []
refused_by fields column (Err fault) = refused fields fault column ∷ []

-- The refusals of these records, of which the first has the given number. Each record is parsed by
-- itself.
unfoldable pub refusals_from : {Row : Type 0}
    → (Record → Result Row FaultKind)
    → (Record → Option Column)
    → ℕ
    → List Record
    → List Refusal
refusals_from row_of bad_of number [] = []
refusals_from row_of bad_of number (fields ∷ records) =
    refused_by fields (bad_of fields) (numbered_row row_of number fields)
    ++ refusals_from row_of bad_of (number + 1) records

-- The refusals of a file with this header, by the parse of the header. After a refused header there
-- are no others. The record after the last that a file may have is refused, and none after it is
-- looked at.
abbrev pub refusals_after : {Row : Type 0}
    → Record
    → Option Column
    → (Record → Result Row FaultKind)
    → (Record → Option Column)
    → List Record
    → Result (Unit {0}) FaultKind
    → List Refusal
refusals_after header column row_of bad_field records (Ok good) =
    refusals_from row_of bad_field 1 (take (MAX_RECORDS + 1) records)
refusals_after header column row_of bad_field records (Err w) =
    refused header (record { row = 0; what = w }) column ∷ []

-- The refusals of a file, given as its records. A file must have a header.
abbrev pub refusals_in : {Row : Type 0}
    → (Record → Result (Unit {0}) FaultKind)
    → (Record → Option Column)
    → (Record → Result Row FaultKind)
    → (Record → Option Column)
    → List Record
    → List Refusal
refusals_in header_of bad_column row_of bad_field [] =
    refused [] (record { row = 0; what = what.Fields }) None ∷ []
refusals_in header_of bad_column row_of bad_field (header ∷ records) =
    refusals_after header (bad_column header) row_of bad_field records (header_of header)

-- The columns of the rows that list refusals.
abbrev pub refusal_columns : List (List ℕ)
refusal_columns =
    codes "record" ∷ codes "line" ∷ codes "field" ∷ codes "text" ∷ codes "fault" ∷ codes "wanted"
    ∷ []

-- The name of the field at fault, or nothing.
abbrev pub column_name : Option Column → List ℕ
column_name None = []
column_name (Some column) = column_text column

-- The fields of the row of a refusal.
abbrev pub refusal_fields : RefusalRow → List (List ℕ)
refusal_fields row =
    decimal row.fault.row ∷ decimal row.line ∷ column_name row.column ∷ string_bytes row.text
    ∷ kind_text row.fault.what ∷ row.wanted.now ∷ []

-- The refusal that a row lists.
abbrev pub refusal_in : RefusalRow → Refusal
refusal_in row =
    record { fault = row.fault; column = row.column; text = string_bytes row.text }

-- The lines that list refusals, one for each. A field that needs quotes has them.
abbrev pub refusal_lines : List RefusalRow → List ℕ
refusal_lines rows = flat_map (λ row. row_text default_writer (refusal_fields row)) rows

-- The file that lists refusals: the line of the header, and then those of the refusals.
abbrev pub refusals_text : List RefusalRow → List ℕ
refusals_text rows = row_text default_writer refusal_columns ++ refusal_lines rows

module _ {Row : Type 0} (header_of : Record → Result (Unit {0}) FaultKind)
    (bad_column : Record → Option Column) (row_of : Record → Result Row FaultKind)
    (bad_field : Record → Option Column) where
  -- The rows list the refused records of a file of these bytes, in file order. If there is none,
  -- the file is good.
  pub record AreRefusals (bytes : List ℕ) (rows : List RefusalRow) : Type 0 where
    pub same : map refusal_in rows ≡ refusals_in header_of bad_column row_of bad_field
        (records default_config (strip_bom bytes))
    pub accepted : rows ≡ [] → (list : List Row) × (parse_file header_of row_of bytes ≡ Ok list)

  -- The rows of all refused records of these bytes are written, and counted.
  abbrev pub ListsRefusals : Option (List ℕ)
      → Option (List ℕ)
      → Option (List ℕ)
      → Result ℕ Fault
      → Type 0
  ListsRefusals bytes old new result = IfOk result (λ count. IfSome bytes (λ b.
      (rows : List RefusalRow) × AreRefusals b rows × (length rows ≡ count)
      × Appends old new (refusals_text rows)))

  -- The row is that of the first refused record of these bytes, or there is none if the file is
  -- good.
  abbrev pub FindsRefusal : Option (List ℕ) → Result (Option RefusalRow) Fault → Type 0
  FindsRefusal bytes result = IfOk result (λ found. IfSome bytes (λ b.
      option_map refusal_in found ≡ slice_get (refusals_in header_of bad_column row_of bad_field
      (records default_config (strip_bom b))) 0))

-- The refusals of a file of jobs, for a machine of dimension `n`, are listed.
abbrev pub ListsJobs : ℕ → Option (List ℕ) → Option (List ℕ) → Option (List ℕ) → Result ℕ Fault → Type 0
ListsJobs n bytes old new result =
    ListsRefusals (header_of (codes "lane" ∷ codes "kind" ∷ codes "op" ∷ codes "root"
    ∷ codes "items" ∷ [])) bad_job_column (job_of n) bad_job_field bytes old new result

-- The refusals of a file of commands, for a machine of dimension `n`, are listed.
abbrev pub ListsCommands : ℕ → Option (List ℕ) → Option (List ℕ) → Option (List ℕ) → Result ℕ Fault → Type 0
ListsCommands n bytes old new result =
    ListsRefusals (header_of (codes "command" ∷ codes "name" ∷ codes "dim" ∷ []))
    (bad_of_three column.Command column.Name column.Dim) (command_of n) bad_command_field bytes old
    new result

-- The refusals of a schedule are listed.
abbrev pub ListsLines : Option (List ℕ) → Option (List ℕ) → Option (List ℕ) → Result ℕ Fault → Type 0
ListsLines bytes old new result =
    ListsRefusals (header_of (codes "station" ∷ codes "call" ∷ codes "arg" ∷ []))
    (bad_of_three column.Station column.Call column.Arg) schedule_line bad_line_field bytes old new
    result

-- The first refused job of a file is found, for a machine of dimension `n`.
abbrev pub FindsJob : ℕ → Option (List ℕ) → Result (Option RefusalRow) Fault → Type 0
FindsJob n bytes result =
    FindsRefusal (header_of (codes "lane" ∷ codes "kind" ∷ codes "op" ∷ codes "root"
    ∷ codes "items" ∷ [])) bad_job_column (job_of n) bad_job_field bytes result

-- The first refused command of a file is found, for a machine of dimension `n`.
abbrev pub FindsCommand : ℕ → Option (List ℕ) → Result (Option RefusalRow) Fault → Type 0
FindsCommand n bytes result =
    FindsRefusal (header_of (codes "command" ∷ codes "name" ∷ codes "dim" ∷ []))
    (bad_of_three column.Command column.Name column.Dim) (command_of n) bad_command_field bytes
    result

-- The first refused line of a schedule is found.
abbrev pub FindsLine : Option (List ℕ) → Result (Option RefusalRow) Fault → Type 0
FindsLine bytes result =
    FindsRefusal (header_of (codes "station" ∷ codes "call" ∷ codes "arg" ∷ []))
    (bad_of_three column.Station column.Call column.Arg) schedule_line bad_line_field bytes result
