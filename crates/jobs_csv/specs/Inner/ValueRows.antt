-- The lines of values, for the proofs of their writing.
use Rattle.std.specs.Prelude.{ℕ, List, Option, option_map}
use Rattle.std.specs.List.{flat_map}
use Rattle.std.specs.Option.{option_to_list}
use Rattle.job_types.specs.declared.reply.JobId.{JobId}
use Rattle.jobs_csv.specs.Text.{line_of}
use Rattle.jobs_csv.specs.ValueRows.{value_fields}
use Rattle.jobs_csv.specs.declared.value_rows.ValueRow.{ValueRow}

-- The row of a value, if there is one.
abbrev pub value_in : JobId → ℕ → Option ℕ → List ValueRow
value_in id place value =
    option_to_list (option_map (λ v. record { id = id; place = place; value = v }) value)

-- The lines of rows of values.
abbrev pub value_lines : List ValueRow → List ℕ
value_lines rows = flat_map (λ row. line_of (value_fields row)) rows
