-- What a reader of records has returned, for the proofs of the loop over a file.
use Rattle.std.specs.Prelude.{◌≡◌, ℕ, ⊤, true, List, Option, Some, None}
use Rattle.csv.specs.Reading.{AreRecords, Reached, Ready, default_config, is_flexible, reader_config, reader_state, reader_trim, source_of, strip_bom}
use Rattle.csv.specs.declared.parser.State.TheVariants as st
use Rattle.csv.specs.declared.reader.Reader.{Reader}
use Rattle.csv.specs.declared.reader.Trim.TheVariants as trim
use Rattle.jobs_csv.specs.Files.{Record}

-- A reader of records with any number of fields, in csv's default dialect. It has no header of its
-- own and does not trim.
pub record IsPlain {R : Type 0} (r : Reader R) : Type 0 where
  pub trim : reader_trim r ≡ trim.None
  pub ready : Ready r
  pub config : reader_config r ≡ default_config
  pub flexible : is_flexible r ≡ true

-- The reader has returned these records of the bytes, and has the rest of the bytes left. If the
-- bytes are unknown, this says nothing.
abbrev pub HasGiven : {R : Type 0}
    → (R → Option (List ℕ))
    → Option (List ℕ)
    → List Record
    → Reader R
    → Type 0
HasGiven rem None rows r = ⊤
HasGiven rem (Some bytes) rows r =
    (left : List ℕ) × (source_of rem r ≡ Some left)
    × Reached default_config st.StartRecord (strip_bom bytes) rows (reader_state r) left

-- These are all the records of the bytes, if the bytes are known.
abbrev pub AreAll : Option (List ℕ) → List Record → Type 0
AreAll None rows = ⊤
AreAll (Some bytes) rows = AreRecords default_config st.StartRecord (strip_bom bytes) rows
