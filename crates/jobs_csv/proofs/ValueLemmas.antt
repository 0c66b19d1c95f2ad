-- The lines of the values of replies, place after place and reply after reply.
use Rattle.std.proofs.Common.{◌≡◌, ℕ, ◌+◌, List, [], ◌∷◌, ◌++◌, sym, ap, ◌∙◌, append_assoc}
use Rattle.std.specs.List.{flat_map, range_with_len}
use Rattle.std.proofs.lemmas.List.{flat_map_more}
use Rattle.std.proofs.lemmas.List.Concat.{flat_map-append}
use Rattle.job_types.specs.Reply.{ReplyData}
use Rattle.jobs_csv.specs.Text.{line_of}
use Rattle.jobs_csv.specs.Inner.ValueRows.{value_lines}
use Rattle.jobs_csv.specs.ValueRows.{value_at, value_columns, value_fields, values_of, values_text}
use Rattle.jobs_csv.specs.declared.value_rows.ValueRow.{ValueRow}
use Rattle.jobs_csv.proofs.PlaceTextLemmas.{range_more}

-- the rows of the first places of a reply
abbrev pub first_values : ReplyData → ℕ → List ValueRow
first_values reply places = flat_map (value_at reply) (range_with_len 0 places)

-- the lines of one place more
pub next_value : (lines : List ℕ) (reply : ReplyData) (place : ℕ)
    → (lines ++ value_lines (first_values reply place)) ++ value_lines (value_at reply place)
    ≡ lines ++ value_lines (first_values reply (place + 1))
next_value lines reply place =
    append_assoc lines (value_lines (first_values reply place)) (value_lines (value_at reply place))
    ∙ ap (λ (text : List ℕ). lines ++ text)
    (sym (flat_map-append (λ (row : ValueRow). line_of (value_fields row)) (first_values reply place) (value_at reply place))
    ∙ ap value_lines (flat_map_more (value_at reply) [] (range_with_len 0 place) place
    ∙ ap (flat_map (value_at reply)) (sym (range_more place))))

-- the lines of all places
pub all_values : (lines : List ℕ) (reply : ReplyData) (places : ℕ)
    → first_values reply places ≡ values_of reply
    → lines ++ value_lines (first_values reply places) ≡ lines ++ value_lines (values_of reply)
all_values lines reply places same = ap (λ (rows : List ValueRow). lines ++ value_lines rows) same

-- the file with the lines of one reply more
pub next_reply : (replies : List ReplyData) (reply : ReplyData)
    → values_text replies ++ value_lines (values_of reply) ≡ values_text (replies ++ reply ∷ [])
next_reply replies reply =
    append_assoc (line_of value_columns) (value_lines (flat_map values_of replies)) (value_lines (values_of reply))
    ∙ ap (λ (text : List ℕ). line_of value_columns ++ text)
    (sym (flat_map-append (λ (row : ValueRow). line_of (value_fields row)) (flat_map values_of replies) (values_of reply))
    ∙ ap value_lines (flat_map_more values_of [] replies reply))
