-- From the records read so far to the parse of the whole file.
use Rattle.std.proofs.Common.{◌≡◌, ℕ, ◌+◌, ◌≤◌, Bool, true, false, nat_lt, List, [], ◌∷◌, ◌++◌, length, Option, Some, None, IfSome, Result, Ok, Err, if◌then◌else◌, refl, sym, ap, ◌∙◌, append-nil, append_assoc, arith}
use Rattle.std.proofs.lemmas.List.{length_push}
use Rattle.std.proofs.lemmas.Bool.{false≢true}
use Rattle.std.proofs.lemmas.Bool.Decides.{nat_tests}
use Rattle.csv.specs.declared.reader.Reader.{Reader}
use Rattle.csv.specs.Reading.{default_config, reader_state, records as all_records, strip_bom}
use Rattle.jobs_csv.specs.declared.fault.Fault.{Fault}
use Rattle.jobs_csv.specs.declared.fault.FaultKind.{FaultKind}
use Rattle.jobs_csv.specs.declared.fault.FaultKind.TheVariants as what
use Rattle.jobs_csv.specs.declared.input.TheConstants.{MAX_RECORDS}
use Rattle.jobs_csv.specs.Fault.{is_refusal}
use Rattle.jobs_csv.specs.Inner.Parse.{IsParseError}
use Rattle.jobs_csv.specs.Outcome.{ReturnsFile, ReturnsRows, ◌>>=◌}
use Rattle.jobs_csv.specs.Files.{Record, at_row, file_of, numbered_row, rows_from, parse_file}
use Rattle.jobs_csv.specs.Inner.Input.{AreAll, HasGiven}
use Rattle.jobs_csv.proofs.CsvRecords.{first_records, whole_records}

-- the parse of a header, and of any other record
abbrev Headers : Type 0
Headers = Record → Result (Unit {0}) FaultKind

abbrev Rows : Type 0 → Type 0
Rows Row = Record → Result Row FaultKind

-- rows before those of a parse
abbrev pub with_front : {Row : Type 0}
    → List Row
    → Result (List Row) Fault
    → Result (List Row) Fault
with_front rows (Ok more) = Ok (rows ++ more)
with_front rows (Err fault) = Err fault

-- the first records have these rows, whatever comes after them
pub record Passes {Row : Type 0} (row_of : Record → Result Row FaultKind) (front : List Record)
    (rows : List Row) : Type 0 where
  pub all : (rest : List Record)
      → rows_from row_of 1 (front ++ rest)
      ≡ with_front rows (rows_from row_of (length front + 1) rest)

-- a reader has given a good header and then records of these rows; the next record has this number
pub record HasRead {R Row : Type 0} (header_of : Record → Result (Unit {0}) FaultKind)
    (row_of : Record → Result Row FaultKind) (rem : R → Option (List ℕ)) (bytes : Option (List ℕ))
    (number : ℕ) (rows : List Row) (reader : Reader R) : Type 0 where
  pub header : Record
  pub front : List Record
  pub given : HasGiven rem bytes (header ∷ front) reader
  pub count : length front + 1 ≡ number
  pub good : header_of header ≡ Ok tt
  pub passes : Passes row_of front rows

-- no record has been read
pub none_pass : {Row : Type 0} (row_of : Rows Row) → Passes row_of [] []
none_pass {Row} row_of = record { all = λ rest. sym (in_front (rows_from row_of 1 rest)) }
  where
    in_front : (answer : Result (List Row) Fault) → with_front [] answer ≡ answer
    in_front (Ok rows) = refl
    in_front (Err fault) = refl

-- a refusal is the parse's error
pub refusal_parsed : {A : Type 0} (answer : Result A FaultKind) (w : FaultKind)
    → is_refusal w ≡ true
    → IsParseError answer w
    → answer ≡ Err w
refusal_parsed answer what.Fields is parse = parse
refusal_parsed answer what.Number is parse = parse
refusal_parsed answer what.Word is parse = parse
refusal_parsed answer (what.Job reason) is parse = parse
refusal_parsed answer what.Read is parse = absurd parse
refusal_parsed answer what.Write is parse = absurd parse
refusal_parsed answer what.OutOfMemory is parse = absurd (false≢true is)
refusal_parsed answer what.TooMany is parse = parse
refusal_parsed answer what.Spent is parse = absurd parse

-- a file of no record
pub no_record : {Row : Type 0} (header_of : Headers) (row_of : Rows Row) (bytes : Option (List ℕ))
    → AreAll bytes []
    → IfSome bytes (λ b. ReturnsFile (parse_file header_of row_of b)
    (Err (record { row = 0; what = what.Fields })))
unfolding file_of
no_record header_of row_of None all = tt
no_record header_of row_of (Some bytes) all = λ _. ap (file_of header_of row_of) (whole_records (strip_bom bytes) [] all)

-- the records that were given are the first of the file
pub given_first : {R : Type 0} (rem : R → Option (List ℕ)) (bytes : List ℕ) (records : List Record)
    (reader : Reader R)
    → HasGiven rem (Some bytes) records reader
    → (more : List Record) × (all_records default_config (strip_bom bytes) ≡ records ++ more)
given_first rem bytes records reader given = first_records (strip_bom bytes) records (reader_state reader) given.0 given.2

-- a header that is refused
pub bad_header : {R Row : Type 0} (header_of : Headers) (row_of : Rows Row)
    (rem : R → Option (List ℕ)) (bytes : Option (List ℕ)) (header : Record) (w : FaultKind)
    (reader : Reader R)
    → HasGiven rem bytes (header ∷ []) reader
    → IsParseError (header_of header) w
    → IfSome bytes (λ b. ReturnsFile (parse_file header_of row_of b)
    (Err (record { row = 0; what = w })))
unfolding file_of
bad_header header_of row_of rem None header w reader given parse = tt
bad_header header_of row_of rem (Some bytes) header w reader given parse = λ is.
    let all = given_first rem bytes (header ∷ []) reader given in
    ap (file_of header_of row_of) all.1 ∙ ap (λ (h : Result (Unit {0}) FaultKind). at_row 0 h >>= (λ _. rows_from row_of 1 all.0)) (refusal_parsed (header_of header) w is parse)

-- the rows of a file with a good header
pub file_rows : {Row : Type 0} (header_of : Headers) (row_of : Rows Row) (header : Record)
    (records : List Record)
    → header_of header ≡ Ok tt
    → file_of header_of row_of (header ∷ records) ≡ rows_from row_of 1 records
unfolding file_of
file_rows header_of row_of header records good = ap (λ (h : Result (Unit {0}) FaultKind). at_row 0 h >>= (λ _. rows_from row_of 1 records)) good

pub no_more_rows : {Row : Type 0} (row_of : Rows Row) (number : ℕ) → rows_from row_of number [] ≡ Ok []
unfolding rows_from
no_more_rows row_of number = refl

first_fault : {Row : Type 0} (row_of : Rows Row) (number : ℕ) (fields : Record)
    (records : List Record) (fault : Fault)
    → numbered_row row_of number fields ≡ Err fault
    → rows_from row_of number (fields ∷ records) ≡ Err fault
unfolding rows_from
first_fault {Row} row_of number fields records fault e = ap (λ (r : Result Row Fault). r >>= (λ row. rows_from row_of (number + 1) records >>= (λ rows. Ok (row ∷ rows)))) e

behind_row : {Row : Type 0} (row : Row) (rest : Result (List Row) Fault)
    → (rest >>= (λ rows. Ok (row ∷ rows))) ≡ with_front (row ∷ []) rest
behind_row row (Ok rows) = refl
behind_row row (Err fault) = refl

pub first_row : {Row : Type 0} (row_of : Rows Row) (number : ℕ) (fields : Record)
    (records : List Record) (row : Row)
    → numbered_row row_of number fields ≡ Ok row
    → rows_from row_of number (fields ∷ records)
    ≡ with_front (row ∷ []) (rows_from row_of (number + 1) records)
unfolding rows_from
first_row {Row} row_of number fields records row e = ap (λ (r : Result Row Fault). r >>= (λ row. rows_from row_of (number + 1) records >>= (λ rows. Ok (row ∷ rows)))) e ∙ behind_row row (rows_from row_of (number + 1) records)

both_fronts : {Row : Type 0} (rows : List Row) (row : Row) (rest : Result (List Row) Fault)
    → with_front rows (with_front (row ∷ []) rest) ≡ with_front (rows ++ row ∷ []) rest
both_fronts rows row (Ok more) = ap Ok (sym (append_assoc rows (row ∷ []) more))
both_fronts rows row (Err fault) = refl

-- a record whose number is within the limit of a file
pub in_range : {Row : Type 0} (row_of : Rows Row) (number : ℕ) (fields : Record)
    → number ≤ MAX_RECORDS
    → numbered_row row_of number fields ≡ at_row number (row_of fields)
in_range row_of number fields within =
    let inside : nat_lt MAX_RECORDS number ≡ false = grind (arith, nat_tests) in
    ap (λ (over : Bool). if over then Err (record { row = number; what = what.TooMany }) else at_row number (row_of fields)) inside

-- the end of the file
atomic_file : {R Row : Type 0} (header_of : Headers) (row_of : Rows Row) (rem : R → Option (List ℕ))
    (bytes : List ℕ) (number : ℕ) (rows : List Row) (reader : Reader R)
    → (k : HasRead header_of row_of rem (Some bytes) number rows reader)
    → AreAll (Some bytes) (k.header ∷ k.front)
    → parse_file header_of row_of bytes ≡ Ok rows
atomic_file header_of row_of rem bytes number rows reader k all =
    ap (file_of header_of row_of) (whole_records (strip_bom bytes) (k.header ∷ k.front) all)
    ∙ file_rows header_of row_of k.header k.front k.good
    ∙ ap (rows_from row_of 1) (sym (append-nil k.front))
    ∙ k.passes.all []
    ∙ ap (with_front rows) (no_more_rows row_of (length k.front + 1))
    ∙ ap Ok (append-nil rows)

-- its rows are pushed
pub all_gathered : {R Row G : Type 0} (contents : G → List Row → Type 0) (header_of : Headers)
    (row_of : Rows Row) (rem : R → Option (List ℕ)) (bytes : Option (List ℕ)) (number : ℕ)
    (rows : List Row) (gathered : G) (reader : Reader R)
    → contents gathered rows
    → (k : HasRead header_of row_of rem bytes number rows reader)
    → AreAll bytes (k.header ∷ k.front)
    → IfSome bytes (λ b. ReturnsRows contents (parse_file header_of row_of b) (Ok gathered))
all_gathered contents header_of row_of rem None number rows gathered reader held k all = tt
all_gathered contents header_of row_of rem (Some bytes) number rows gathered reader held k all = (rows, atomic_file header_of row_of rem bytes number rows reader k all, held)

-- the parse from the next record on
from_next : {R Row : Type 0} (header_of : Headers) (row_of : Rows Row) (rem : R → Option (List ℕ))
    (bytes : List ℕ) (number : ℕ) (rows : List Row) (reader next : Reader R) (fields : Record)
    → (k : HasRead header_of row_of rem (Some bytes) number rows reader)
    → HasGiven rem (Some bytes) ((k.header ∷ k.front) ++ fields ∷ []) next
    → (more : List Record) × (parse_file header_of row_of bytes
    ≡ with_front rows (rows_from row_of number (fields ∷ more)))
from_next header_of row_of rem bytes number rows reader next fields k given =
    let all = given_first rem bytes ((k.header ∷ k.front) ++ fields ∷ []) next given in (
      all.0,
      ap (file_of header_of row_of) all.1
          ∙ file_rows header_of row_of k.header ((k.front ++ fields ∷ []) ++ all.0) k.good
          ∙ ap (rows_from row_of 1) (append_assoc k.front (fields ∷ []) all.0)
          ∙ k.passes.all (fields ∷ all.0)
          ∙ ap (λ (n : ℕ). with_front rows (rows_from row_of n (fields ∷ all.0))) k.count,
    )

-- a record with a fault
bad_record : {R Row : Type 0} (header_of : Headers) (row_of : Rows Row) (rem : R → Option (List ℕ))
    (bytes : List ℕ) (number : ℕ) (rows : List Row) (reader next : Reader R) (fields : Record)
    (fault : Fault)
    → (k : HasRead header_of row_of rem (Some bytes) number rows reader)
    → HasGiven rem (Some bytes) ((k.header ∷ k.front) ++ fields ∷ []) next
    → numbered_row row_of number fields ≡ Err fault
    → parse_file header_of row_of bytes ≡ Err fault
bad_record header_of row_of rem bytes number rows reader next fields fault k given e =
    let rest = from_next header_of row_of rem bytes number rows reader next fields k given in
    rest.1 ∙ ap (with_front rows) (first_fault row_of number fields rest.0 fault e)

-- a record whose fields are refused
pub bad_row : {R Row : Type 0} (header_of : Headers) (row_of : Rows Row) (rem : R → Option (List ℕ))
    (bytes : Option (List ℕ)) (number : ℕ) (rows : List Row) (reader next : Reader R)
    (fields : Record) (w : FaultKind)
    → (k : HasRead header_of row_of rem bytes number rows reader)
    → HasGiven rem bytes ((k.header ∷ k.front) ++ fields ∷ []) next
    → number ≤ MAX_RECORDS
    → IsParseError (row_of fields) w
    → IfSome bytes (λ b. ReturnsFile (parse_file header_of row_of b)
    (Err (record { row = (if is_refusal w then number else 0); what = w })))
bad_row header_of row_of rem None number rows reader next fields w k given within parse = tt
bad_row header_of row_of rem (Some bytes) number rows reader next fields w k given within parse = λ is.
    rw is (bad_record header_of row_of rem bytes number rows reader next fields (record { row = number; what = w }) k given (in_range row_of number fields within ∙ ap (at_row number) (refusal_parsed (row_of fields) w is parse)))

-- one record more than a file may have
pub too_many : {R Row : Type 0} (header_of : Headers) (row_of : Rows Row)
    (rem : R → Option (List ℕ)) (bytes : Option (List ℕ)) (number : ℕ) (rows : List Row)
    (reader next : Reader R) (fields : Record)
    → (k : HasRead header_of row_of rem bytes number rows reader)
    → HasGiven rem bytes ((k.header ∷ k.front) ++ fields ∷ []) next
    → number ≡ MAX_RECORDS + 1
    → IfSome bytes (λ b. ReturnsFile (parse_file header_of row_of b)
    (Err (record { row = MAX_RECORDS + 1; what = what.TooMany })))
too_many header_of row_of rem None number rows reader next fields k given past = tt
too_many header_of row_of rem (Some bytes) number rows reader next fields k given past = λ is.
    bad_record header_of row_of rem bytes number rows reader next fields (record { row = MAX_RECORDS + 1; what = what.TooMany }) k given (ap (λ (n : ℕ). numbered_row row_of n fields) past)

-- one row more
pub one_more_read : {R Row : Type 0} (header_of : Headers) (row_of : Rows Row)
    (rem : R → Option (List ℕ)) (bytes : Option (List ℕ)) (number : ℕ) (rows : List Row)
    (reader next : Reader R) (fields : Record) (row : Row)
    → (k : HasRead header_of row_of rem bytes number rows reader)
    → HasGiven rem bytes ((k.header ∷ k.front) ++ fields ∷ []) next
    → number ≤ MAX_RECORDS
    → row_of fields ≡ Ok row
    → HasRead header_of row_of rem bytes (number + 1) (rows ++ row ∷ []) next
one_more_read header_of row_of rem bytes number rows reader next fields row k given within e =
    let length_more : length (k.front ++ fields ∷ []) ≡ length k.front + 1 = length_push k.front fields in
    let good : numbered_row row_of (length k.front + 1) fields ≡ Ok row = in_range row_of (length k.front + 1) fields (omega (arith, k.count)) ∙ ap (at_row (length k.front + 1)) e in
    record {
      header = k.header;
      front = k.front ++ fields ∷ [];
      given = given;
      count = omega (arith, length_more, k.count);
      good = k.good;
      passes = record {
        all = λ rest.
            ap (rows_from row_of 1) (append_assoc k.front (fields ∷ []) rest)
            ∙ k.passes.all (fields ∷ rest)
            ∙ ap (with_front rows) (first_row row_of (length k.front + 1) fields rest row good)
            ∙ both_fronts rows row (rows_from row_of (length k.front + 1 + 1) rest)
            ∙ ap (λ (n : ℕ). with_front (rows ++ row ∷ []) (rows_from row_of (n + 1) rest)) (sym length_more);
      };
    }

-- a good header, and no row yet
pub header_read : {R Row : Type 0} (header_of : Headers) (row_of : Rows Row)
    (rem : R → Option (List ℕ)) (bytes : Option (List ℕ)) (header : Record) (reader : Reader R)
    → HasGiven rem bytes (header ∷ []) reader
    → header_of header ≡ Ok tt
    → HasRead header_of row_of rem bytes 1 [] reader
header_read header_of row_of rem bytes header reader given good = record { header = header; front = []; given = given; count = refl; good = good; passes = none_pass row_of }
