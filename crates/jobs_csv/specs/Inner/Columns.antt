-- The columns of the files that are read, for the proofs of the formats.
use Rattle.std.specs.Prelude.{ℕ, List, [], ◌∷◌, codes}

-- The columns of a file of jobs.
abbrev pub job_columns : List (List ℕ)
job_columns = codes "lane" ∷ codes "kind" ∷ codes "op" ∷ codes "root" ∷ codes "items" ∷ []

-- The columns of a file of commands.
abbrev pub command_columns : List (List ℕ)
command_columns = codes "command" ∷ codes "name" ∷ codes "dim" ∷ []

-- The columns of a schedule.
abbrev pub schedule_columns : List (List ℕ)
schedule_columns = codes "station" ∷ codes "call" ∷ codes "arg" ∷ []
