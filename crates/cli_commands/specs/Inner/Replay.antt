-- The rows of the functions that play one act, for their proofs.
use Rattle.std.specs.Prelude.{List, [], ◌∷◌, Option, Some, None}
use Rattle.jobs_csv.specs.declared.replay_rows.ReplayRow.{ReplayRow}

-- A list of the row, if there is one.
abbrev pub rows_in : Option ReplayRow → List ReplayRow
rows_in None = []
rows_in (Some r) = r ∷ []
