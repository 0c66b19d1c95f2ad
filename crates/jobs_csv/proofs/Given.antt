-- What one read of a record adds to what a reader has given.
use Rattle.std.proofs.Common.{◌≡◌, ℕ, true, false, List, [], ◌∷◌, ◌++◌, Option, Some, None, option_map, refl, sym, ◌∙◌}
use Rattle.std.proofs.lemmas.Bool.{false≢true}
use Rattle.csv.specs.declared.parser.State.TheVariants as st
use Rattle.csv.specs.declared.reader.Reader.{Reader}
use Rattle.csv.specs.declared.error.ErrorKind.{ErrorKind}
use Rattle.csv.specs.declared.error.ErrorKind.TheVariants as kind
use Rattle.csv.specs.Reading.{ExplainsRead, ReadRecord, default_config, Reached, is_flexible, reader_state, source_of, stops_reader, strip_bom}
use Rattle.csv.proofs.ReadFacts.{rows-end, rows-more}
use Rattle.jobs_csv.specs.Files.{Record}
use Rattle.jobs_csv.specs.Inner.Input.{AreAll, HasGiven, IsPlain}

-- a record that was found is one more
pub more_given : {R : Type 0} (rem : R → Option (List ℕ)) (a b : Reader R) (fields : Record)
    (bytes : Option (List ℕ)) (rows : List Record)
    → IsPlain a
    → HasGiven rem bytes rows a
    → ReadRecord rem a b true fields
    → HasGiven rem bytes (rows ++ fields ∷ []) b
more_given rem a b fields None rows plain given r = tt
more_given rem a b fields (Some bytes) rows plain given r =
    let next = rows-more rem a b fields default_config st.StartRecord (strip_bom bytes) given.0 rows plain.config given.1 given.2 r in
    (next.0, next.1, next.2)

-- if none was found, there are no more
pub all_given : {R : Type 0} (rem : R → Option (List ℕ)) (a b : Reader R) (fields : Record)
    (bytes : Option (List ℕ)) (rows : List Record)
    → IsPlain a
    → HasGiven rem bytes rows a
    → ReadRecord rem a b false fields
    → AreAll bytes rows
all_given rem a b fields None rows plain given r = tt
all_given rem a b fields (Some bytes) rows plain given r =
    (reader_state a, given.0, given.2, rows-end rem a b fields default_config given.0 plain.config given.1 r)

-- a read of records of any length fails only if the reader below it fails, or for memory
pub stops : {R : Type 0} (rem : R → Option (List ℕ)) (a b : Reader R) (error : ErrorKind)
    → is_flexible a ≡ true
    → ExplainsRead rem a b false error
    → stops_reader error ≡ true
stops rem a b (kind.Io e) flexible why = refl
stops rem a b kind.OutOfMemory flexible why = refl
stops rem a b (kind.UnequalLengths pos expected len) flexible why = absurd (false≢true (sym why.0 ∙ flexible))
stops rem a b (kind.Utf8 pos err) flexible why = absurd (false≢true why.0)
stops rem a b (kind.Serialize text) flexible why = absurd why
stops rem a b (kind.Deserialize pos err) flexible why = absurd why

-- a reader that has not begun has given nothing
pub none_given : {R : Type 0} (rem : R → Option (List ℕ)) (bytes : Option (List ℕ)) (r : Reader R)
    → source_of rem r ≡ option_map strip_bom bytes
    → reader_state r ≡ st.StartRecord
    → HasGiven rem bytes [] r
unfolding Reached
none_given rem None r source state = tt
none_given rem (Some bytes) r source state = (strip_bom bytes, source, (sym state, refl))
