-- The rows of what the places of replies hold at the end: a row for each value.
use Rattle.std.specs.Prelude.{ℕ, List, [], ◌∷◌, codes, length, option_map}
use Rattle.std.specs.List.{flat_map, range_with_len}
use Rattle.std.specs.Option.{option_to_list}
use Rattle.std.specs.Fmt.{decimal}
use Rattle.job_types.specs.Collective.{result_at}
use Rattle.job_types.specs.Reply.{ReplyData}
use Rattle.jobs_csv.specs.Text.{file_text}
use Rattle.jobs_csv.specs.declared.value_rows.ValueRow.{ValueRow}

-- The columns of the rows of values.
abbrev pub value_columns : List (List ℕ)
value_columns = codes "lane" ∷ codes "seq" ∷ codes "place" ∷ codes "value" ∷ []

-- The fields of the row of a value.
abbrev pub value_fields : ValueRow → List (List ℕ)
value_fields row =
    decimal row.id.lane ∷ decimal row.id.seq ∷ decimal row.place ∷ decimal row.value ∷ []

-- The row of this place of a reply, if the place holds a value.
abbrev pub value_at : ReplyData → ℕ → List ValueRow
value_at reply place =
    option_to_list (option_map (λ value. record { id = reply.id; place = place; value = value })
    (result_at reply.job.kind reply.job.items place))

-- The rows of a reply, place after place. A reduction has one row, that of the root. Any other
-- collective has a row for each item.
unfoldable pub values_of : ReplyData → List ValueRow
values_of reply = flat_map (value_at reply) (range_with_len 0 (length reply.job.items))

-- The file of the rows of these replies.
abbrev pub values_text : List ReplyData → List ℕ
values_text replies = file_text value_columns value_fields (flat_map values_of replies)
