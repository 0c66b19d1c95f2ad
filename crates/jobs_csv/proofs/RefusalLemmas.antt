-- The refusals of the records that were read so far, and those of a whole file.
use Rattle.std.proofs.Common.{◌≡◌, ℕ, zero, suc, ◌+◌, ◌<◌, ◌≤◌, ◌-◌, Bool, true, nat_lt, List, [], ◌∷◌, ◌++◌, length, map, slice_get, take, Option, Some, None, IfSome, Result, Ok, Err, if◌then◌else◌, refl, sym, ap, ap₂, ◌∙◌, append-nil, append_assoc, add-zero, arith}
use Rattle.std.proofs.lemmas.List.{length_push, map-append, take_all, take_at}
use Rattle.std.proofs.Math.Seq.{take-append-add}
use Rattle.std.proofs.lemmas.Bool.Decides.{nat_tests}
use Rattle.std.proofs.lemmas.List.Concat.{flat_map-append}
use Rattle.csv.specs.Writing.{default_writer, row_text}
use Rattle.csv.specs.declared.reader.Reader.{Reader}
use Rattle.std.specs.Io.KnownBytes.{Appends}
use Rattle.csv.specs.Reading.{default_config, records as all_records, strip_bom}
use Rattle.jobs_csv.specs.declared.bad_field.Column.{Column}
use Rattle.jobs_csv.specs.declared.fault.Fault.{Fault}
use Rattle.jobs_csv.specs.declared.fault.FaultKind.{FaultKind}
use Rattle.jobs_csv.specs.declared.input.TheConstants.{MAX_RECORDS}
use Rattle.jobs_csv.specs.declared.refusal_rows.RefusalRow.{RefusalRow}
use Rattle.jobs_csv.specs.declared.fault.FaultKind.TheVariants as what
use Rattle.jobs_csv.specs.Files.{Record, at_row, file_of, numbered_row, rows_from}
use Rattle.jobs_csv.specs.Inner.Input.{AreAll, HasGiven}
use Rattle.jobs_csv.specs.Refusals.{AreRefusals, Refusal, refusal_fields, refusal_in, refusal_lines, refusals_after, refusals_from, refusals_in, refusals_text, refused, refused_by}
use Rattle.jobs_csv.proofs.CsvRecords.{whole_records}
use Rattle.jobs_csv.proofs.FileLemmas.{file_rows, first_row, given_first, no_more_rows, with_front}

both_none : {A : Type 0} (a b : List A) → a ++ b ≡ [] → (a ≡ []) × (b ≡ [])
both_none [] b none = (refl, none)
both_none (x ∷ a) b none = cc

some_left : {A : Type 0} (x : A) (xs : List A) → x ∷ xs ≡ [] → ⊥
some_left x xs none = cc

ok_or_err : {A E : Type 0} (x : A) (e : E) → Ok x ≡ Err e → ⊥
ok_or_err x e is = cc

module _ {Row : Type 0} (row_of : Record → Result Row FaultKind)
    (bad_of : Record → Option Column) where
  -- the refusals of one record more
  pub one_more : (number : ℕ) (front : List Record) (fields : Record)
      → refusals_from row_of bad_of number (front ++ fields ∷ [])
      ≡ refusals_from row_of bad_of number front
      ++ refused_by fields (bad_of fields) (numbered_row row_of (number + length front) fields)
  unfolding refusals_from
  one_more number [] fields = append-nil (refused_by fields (bad_of fields) (numbered_row row_of number fields)) ∙ ap (λ (n : ℕ). refused_by fields (bad_of fields) (numbered_row row_of n fields)) (sym (add-zero number))
  one_more number (first ∷ front) fields =
      let same : number + 1 + length front ≡ number + length (first ∷ front) = omega arith in
      ap (λ (more : List Refusal). refused_by first (bad_of first) (numbered_row row_of number first) ++ more)
      (one_more (number + 1) front fields ∙ ap (λ (n : ℕ). refusals_from row_of bad_of (number + 1) front ++ refused_by fields (bad_of fields) (numbered_row row_of n fields)) same)
      ∙ sym (append_assoc (refused_by first (bad_of first) (numbered_row row_of number first)) (refusals_from row_of bad_of (number + 1) front) (refused_by fields (bad_of fields) (numbered_row row_of (number + length (first ∷ front)) fields)))

  -- the records after the header so far, with their refusals
  pub record HasListed {R : Type 0} (rem : R → Option (List ℕ)) (bytes : Option (List ℕ))
      (header : Record) (number : ℕ) (rows : List RefusalRow) (reader : Reader R) : Type 0 where
    pub front : List Record
    pub given : HasGiven rem bytes (header ∷ front) reader
    pub count : length front + 1 ≡ number
    pub same : map refusal_in rows ≡ refusals_from row_of bad_of 1 front

  counted : (number : ℕ) (front : List Record) → length front + 1 ≡ number → 1 + length front ≡ number
  counted number front count = omega arith

  -- no record is read yet
  pub none_listed : {R : Type 0} (rem : R → Option (List ℕ)) (bytes : Option (List ℕ))
      (header : Record) (reader : Reader R)
      → HasGiven rem bytes (header ∷ []) reader
      → HasListed rem bytes header 1 [] reader
  unfolding refusals_from
  none_listed rem bytes header reader given = record { front = []; given = given; count = refl; same = refl }

  -- one record more, with the row of its refusal, if it is refused
  pub one_read : {R : Type 0} (rem : R → Option (List ℕ)) (bytes : Option (List ℕ))
      (header : Record) (number : ℕ) (rows : List RefusalRow) (reader next : Reader R)
      (fields : Record) (more : List RefusalRow)
      → (k : HasListed rem bytes header number rows reader)
      → HasGiven rem bytes ((header ∷ k.front) ++ fields ∷ []) next
      → refused_by fields (bad_of fields) (numbered_row row_of number fields) ≡ map refusal_in more
      → HasListed rem bytes header (number + 1) (rows ++ more) next
  one_read rem bytes header number rows reader next fields more k given is = record {
    front = k.front ++ fields ∷ [];
    given = given;
    count = omega (arith, length_push k.front fields, k.count);
    same = map-append refusal_in rows more
        ∙ ap₂ (λ (a b : List Refusal). a ++ b) k.same (sym is)
        ∙ sym (one_more 1 k.front fields ∙ ap (λ (n : ℕ). refusals_from row_of bad_of 1 k.front ++ refused_by fields (bad_of fields) (numbered_row row_of n fields)) (counted number k.front k.count));
  }

  -- the file has no more records
  pub at_end : {R : Type 0} (rem : R → Option (List ℕ)) (bytes : Option (List ℕ))
      (header : Record) (number : ℕ) (rows : List RefusalRow) (reader : Reader R)
      → number ≤ MAX_RECORDS + 2
      → (k : HasListed rem bytes header number rows reader)
      → AreAll bytes (header ∷ k.front)
      → IfSome bytes (λ b. (front : List Record)
      × (all_records default_config (strip_bom b) ≡ header ∷ front)
      × (map refusal_in rows ≡ refusals_from row_of bad_of 1 (take (MAX_RECORDS + 1) front)))
  at_end rem None header number rows reader within k all = tt
  at_end rem (Some bytes) header number rows reader within k all = (
    k.front,
    whole_records (strip_bom bytes) (header ∷ k.front) all,
    k.same ∙ ap (refusals_from row_of bad_of 1) (sym (take_all (MAX_RECORDS + 1) k.front (omega (arith, k.count, within)))),
  )

  -- all records that a file may have are read, and one more
  pub at_limit : {R : Type 0} (rem : R → Option (List ℕ)) (bytes : Option (List ℕ))
      (header : Record) (number : ℕ) (rows : List RefusalRow) (reader : Reader R)
      → number ≡ MAX_RECORDS + 2
      → (k : HasListed rem bytes header number rows reader)
      → IfSome bytes (λ b. (front : List Record)
      × (all_records default_config (strip_bom b) ≡ header ∷ front)
      × (map refusal_in rows ≡ refusals_from row_of bad_of 1 (take (MAX_RECORDS + 1) front)))
  at_limit rem None header number rows reader past k = tt
  at_limit rem (Some bytes) header number rows reader past k =
      let all = given_first rem bytes (header ∷ k.front) reader k.given in (
        k.front ++ all.0,
        all.1,
        k.same ∙ ap (refusals_from row_of bad_of 1) (sym (take_at k.front all.0 (MAX_RECORDS + 1) (omega (arith, k.count, past)))),
      )

  -- the refusals of some records, and of those after them
  refusals_split : (number : ℕ) (front rest : List Record)
      → refusals_from row_of bad_of number (front ++ rest)
      ≡ refusals_from row_of bad_of number front
      ++ refusals_from row_of bad_of (number + length front) rest
  unfolding refusals_from
  refusals_split number [] rest = ap (λ (n : ℕ). refusals_from row_of bad_of n rest) (sym (add-zero number))
  refusals_split number (first ∷ front) rest =
      let same : number + 1 + length front ≡ number + length (first ∷ front) = omega arith in
      let here = refused_by first (bad_of first) (numbered_row row_of number first) in
      ap (λ (more : List Refusal). here ++ more)
      (refusals_split (number + 1) front rest ∙ ap (λ (n : ℕ). refusals_from row_of bad_of (number + 1) front ++ refusals_from row_of bad_of n rest) same)
      ∙ sym (append_assoc here (refusals_from row_of bad_of (number + 1) front) (refusals_from row_of bad_of (number + length (first ∷ front)) rest))

  -- the first refusal after a header, if there is one
  abbrev pub IsFirst : Option (List ℕ) → Record → Option Refusal → Type 0
  IsFirst bytes header found = IfSome bytes (λ b. (front : List Record)
      × (all_records default_config (strip_bom b) ≡ header ∷ front)
      × (found ≡ slice_get (refusals_from row_of bad_of 1 (take (MAX_RECORDS + 1) front)) 0))

  -- no record is refused
  pub none_found : (bytes : Option (List ℕ)) (header : Record)
      → IfSome bytes (λ b. (front : List Record)
      × (all_records default_config (strip_bom b) ≡ header ∷ front)
      × ([] ≡ refusals_from row_of bad_of 1 (take (MAX_RECORDS + 1) front)))
      → IsFirst bytes header None
  none_found None header is = tt
  none_found (Some b) header (front, all, none) = (front, all, ap (λ (list : List Refusal). slice_get list 0) none)

  -- the record that was read last is the first that is refused
  pub one_found : {R : Type 0} (rem : R → Option (List ℕ)) (bytes : Option (List ℕ))
      (header : Record) (number : ℕ) (row : RefusalRow) (reader next : Reader R) (fields : Record)
      → number ≤ MAX_RECORDS + 1
      → (k : HasListed rem bytes header number [] reader)
      → HasGiven rem bytes ((header ∷ k.front) ++ fields ∷ []) next
      → refused_by fields (bad_of fields) (numbered_row row_of number fields)
      ≡ refusal_in row ∷ []
      → IsFirst bytes header (Some (refusal_in row))
  one_found rem None header number row reader next fields within k given is = tt
  one_found rem (Some b) header number row reader next fields within k given is =
      let now = one_read rem (Some b) header number [] reader next fields (row ∷ []) k given is in
      let (rest, all) = given_first rem b (header ∷ now.front) next now.given in
      let limit = MAX_RECORDS + 1 - length now.front in
      let enough : MAX_RECORDS + 1 ≡ length now.front + limit = omega (arith, now.count, within) in (
        now.front ++ rest,
        all,
        ap (λ (list : List Refusal). slice_get (list ++ refusals_from row_of bad_of (1 + length now.front) (take limit rest)) 0) now.same
            ∙ sym (ap (λ (list : List Refusal). slice_get list 0)
            (ap (λ (m : ℕ). refusals_from row_of bad_of 1 (take m (now.front ++ rest))) enough
            ∙ ap (refusals_from row_of bad_of 1) (take-append-add now.front rest limit)
            ∙ refusals_split 1 now.front (take limit rest))),
      )

  by_row : (number : ℕ) (fields : Record) (parsed : Result Row Fault)
      → numbered_row row_of number fields ≡ parsed
      → refused_by fields (bad_of fields) parsed ≡ []
      → (row : Row) × (numbered_row row_of number fields ≡ Ok row)
  by_row number fields (Ok row) is none = (row, is)
  by_row number fields (Err fault) is none = absurd (some_left _ _ none)

  past_limit : (number : ℕ) (fields : Record) (row : Row)
      → MAX_RECORDS < number
      → numbered_row row_of number fields ≡ Ok row
      → ⊥
  past_limit number fields row past is =
      let over : nat_lt MAX_RECORDS number ≡ true = grind (arith, nat_tests) in
      let refuses : numbered_row row_of number fields ≡ Err (record { row = number; what = what.TooMany }) = ap (λ (b : Bool). if b then Err (record { row = number; what = what.TooMany }) else at_row number (row_of fields)) over in
      ok_or_err row _ (sym is ∙ refuses)

  -- if none of the records is refused, all are parsed
  pub none_refused : (records : List Record) (number limit : ℕ)
      → number + limit ≡ MAX_RECORDS + 2
      → 1 ≤ limit
      → refusals_from row_of bad_of number (take limit records) ≡ []
      → (rows : List Row) × (rows_from row_of number records ≡ Ok rows)
  unfolding refusals_from
  none_refused [] number limit sum some none = ([], no_more_rows row_of number)
  none_refused (fields ∷ records) number zero sum some none = absurd (omega arith)
  none_refused (fields ∷ records) number (suc zero) sum some none =
      let parsed = by_row number fields _ refl (both_none _ _ none).0 in
      absurd (past_limit number fields parsed.0 (omega arith) parsed.1)
  none_refused (fields ∷ records) number (suc (suc more)) sum some none =
      let parsed = by_row number fields _ refl (both_none _ _ none).0 in
      let rest = none_refused records (number + 1) (suc more) (omega arith) (omega arith) (both_none _ _ none).1 in
      (parsed.0 ∷ rest.0, first_row row_of number fields records parsed.0 parsed.1 ∙ ap (with_front (parsed.0 ∷ [])) rest.1)

-- the lines of more refusals
pub more_lines : (lines : List ℕ) (rows more : List RefusalRow)
    → (lines ++ refusal_lines rows) ++ refusal_lines more ≡ lines ++ refusal_lines (rows ++ more)
more_lines lines rows more =
    append_assoc lines (refusal_lines rows) (refusal_lines more)
    ∙ ap (λ (text : List ℕ). lines ++ text) (sym (flat_map-append (λ (row : RefusalRow). row_text default_writer (refusal_fields row)) rows more))

-- ---- a whole file

module _ {Row : Type 0} (header_of : Record → Result (Unit {0}) FaultKind)
    (bad_column : Record → Option Column) (row_of : Record → Result Row FaultKind)
    (bad_field : Record → Option Column) where
  not_none : (row : RefusalRow) {P : Type 0} → row ∷ [] ≡ [] → P
  not_none row none = absurd (some_left row [] none)

  -- a file with no record
  pub no_header : (bytes : Option (List ℕ)) (row : RefusalRow)
      → AreAll bytes []
      → refusal_in row ≡ refused [] (record { row = 0; what = what.Fields }) None
      → IfSome bytes (λ b. AreRefusals header_of bad_column row_of bad_field b (row ∷ []))
  no_header None row all is = tt
  no_header (Some b) row all is = record {
    same = ap (λ (r : Refusal). r ∷ []) is ∙ sym (ap (refusals_in header_of bad_column row_of bad_field) (whole_records (strip_bom b) [] all));
    accepted = not_none row;
  }

  -- a file whose header is refused
  pub bad_header : {R : Type 0} (rem : R → Option (List ℕ)) (bytes : Option (List ℕ))
      (header : Record) (w : FaultKind) (row : RefusalRow) (reader : Reader R)
      → HasGiven rem bytes (header ∷ []) reader
      → header_of header ≡ Err w
      → refusal_in row ≡ refused header (record { row = 0; what = w }) (bad_column header)
      → IfSome bytes (λ b. AreRefusals header_of bad_column row_of bad_field b (row ∷ []))
  bad_header rem None header w row reader given bad is = tt
  bad_header rem (Some b) header w row reader given bad is =
      let all = given_first rem b (header ∷ []) reader given in record {
        same = ap (λ (r : Refusal). r ∷ []) is
            ∙ sym (ap (refusals_in header_of bad_column row_of bad_field) all.1
            ∙ ap (refusals_after header (bad_column header) row_of bad_field all.0) bad);
        accepted = not_none row;
      }

  -- the rows of a file
  abbrev Listed : List ℕ → Option (List ℕ) → Option (List ℕ) → ℕ → Type 0
  Listed b old new count =
      (rows : List RefusalRow) × AreRefusals header_of bad_column row_of bad_field b rows
      × (length rows ≡ count) × Appends old new (refusals_text rows)

  -- the header alone is refused
  pub one_listed : (bytes old new : Option (List ℕ)) (row : RefusalRow)
      → IfSome bytes (λ b. AreRefusals header_of bad_column row_of bad_field b (row ∷ []))
      → Appends old new (refusals_text (row ∷ []))
      → IfSome bytes (λ b. Listed b old new 1)
  one_listed None old new row are writes = tt
  one_listed (Some b) old new row are writes = (row ∷ [], are, refl, writes)

  -- the header is good
  pub all_listed : (bytes old new : Option (List ℕ)) (header : Record) (rows : List RefusalRow)
      (count : ℕ)
      → header_of header ≡ Ok tt
      → length rows ≡ count
      → Appends old new (refusals_text rows)
      → IfSome bytes (λ b. (front : List Record)
      × (all_records default_config (strip_bom b) ≡ header ∷ front)
      × (map refusal_in rows ≡ refusals_from row_of bad_field 1 (take (MAX_RECORDS + 1) front)))
      → IfSome bytes (λ b. Listed b old new count)
  all_listed None old new header rows count good counts writes is = tt
  all_listed (Some b) old new header rows count good counts writes (front, all, same) = (
    rows,
    record {
      same = same ∙ sym (ap (refusals_in header_of bad_column row_of bad_field) all
          ∙ ap (refusals_after header (bad_column header) row_of bad_field front) good);
      accepted = λ none.
          let parsed = none_refused row_of bad_field front 1 (MAX_RECORDS + 1) refl (omega arith) (sym same ∙ ap (map refusal_in) none) in
          (parsed.0, ap (file_of header_of row_of) all ∙ file_rows header_of row_of header front good ∙ parsed.1);
    },
    counts,
    writes,
  )

  -- the first refusal of a file
  abbrev pub IsFirstOfFile : Option (List ℕ) → Option Refusal → Type 0
  IsFirstOfFile bytes found = IfSome bytes (λ b. found
      ≡ slice_get (refusals_in header_of bad_column row_of bad_field (all_records default_config
      (strip_bom b))) 0)

  -- it is that of the header
  pub header_found : (bytes : Option (List ℕ)) (row : RefusalRow)
      → IfSome bytes (λ b. AreRefusals header_of bad_column row_of bad_field b (row ∷ []))
      → IsFirstOfFile bytes (Some (refusal_in row))
  header_found None row are = tt
  header_found (Some b) row are = ap (λ (list : List Refusal). slice_get list 0) are.same

  -- the header is good
  pub first_found : (bytes : Option (List ℕ)) (header : Record) (found : Option Refusal)
      → header_of header ≡ Ok tt
      → IsFirst row_of bad_field bytes header found
      → IsFirstOfFile bytes found
  first_found None header found good is = tt
  first_found (Some b) header found good (front, all, same) =
      same ∙ sym (ap (λ (list : List Refusal). slice_get list 0)
      (ap (refusals_in header_of bad_column row_of bad_field) all
      ∙ ap (refusals_after header (bad_column header) row_of bad_field front) good))
