-- The rows of messages.
use Rattle.std.specs.Prelude.{ℕ, List, [], ◌∷◌, codes}
use Rattle.std.specs.Fmt.{decimal}
use Rattle.cli_tools.specs.declared.rows.MessageRow.{MessageRow}

-- The columns of the rows of messages.
abbrev pub message_columns : List (List ℕ)
message_columns = codes "round" ∷ codes "from" ∷ codes "to" ∷ []

-- The fields of a row: the round, the rank that sends, and the rank that receives.
abbrev pub message_fields : MessageRow → List (List ℕ)
message_fields row =
    decimal row.message.round ∷ decimal row.message.from ∷ decimal row.message.to ∷ []
