-- The rows that answer commands: one for each outcome.
use Rattle.std.specs.Prelude.{ℕ, List, [], ◌∷◌, codes}
use Rattle.std.specs.Fmt.{decimal}
use Rattle.jobs_csv.specs.declared.place_rows.PlaceRow.{PlaceRow}
use Rattle.jobs_csv.specs.declared.place_rows.PlaceRow.TheVariants as row

-- The columns of the rows that answer commands.
abbrev pub place_columns : List (List ℕ)
place_columns = codes "command" ∷ codes "name" ∷ codes "dim" ∷ codes "base" ∷ codes "outcome" ∷ []

-- The fields of a row that answers a command.
abbrev pub place_fields : PlaceRow → List (List ℕ)
place_fields (row.Given name dim base) =
    codes "take" ∷ name ∷ decimal dim ∷ decimal base ∷ codes "given" ∷ []
place_fields (row.Held name dim) = codes "take" ∷ name ∷ decimal dim ∷ codes "-" ∷ codes "held" ∷ []
place_fields (row.NoStation name dim) =
    codes "take" ∷ name ∷ decimal dim ∷ codes "-" ∷ codes "nostation" ∷ []
place_fields (row.NoSubcube name dim) =
    codes "take" ∷ name ∷ decimal dim ∷ codes "-" ∷ codes "nosubcube" ∷ []
place_fields (row.Freed name dim base) =
    codes "free" ∷ name ∷ decimal dim ∷ decimal base ∷ codes "freed" ∷ []
place_fields (row.NothingHeld name) =
    codes "free" ∷ name ∷ codes "-" ∷ codes "-" ∷ codes "nothingheld" ∷ []
