-- The row of a refusal, if there is one, for the proofs of the list of refusals.
use Rattle.std.specs.Prelude.{List, [], ◌∷◌, Option, Some, None}
use Rattle.jobs_csv.specs.declared.refusal_rows.RefusalRow.{RefusalRow}

-- A list of the row, if there is one.
abbrev pub rows_in : Option RefusalRow → List RefusalRow
rows_in None = []
rows_in (Some row) = row ∷ []
