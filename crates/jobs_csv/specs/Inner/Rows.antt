-- The fields of the rows, column by column, for the proofs of their writing.
use Rattle.std.specs.Prelude.{ℕ, List, codes, Option, Some, None}
use Rattle.std.specs.Fmt.{decimal}
use Rattle.jobs_csv.specs.declared.place_rows.PlaceRow.{PlaceRow}
use Rattle.jobs_csv.specs.declared.place_rows.PlaceRow.TheVariants as place
use Rattle.jobs_csv.specs.declared.replay_rows.ReplayRow.{ReplayRow}
use Rattle.jobs_csv.specs.declared.replay_rows.ReplayRow.TheVariants as row
use Rattle.jobs_csv.specs.ReplayRows.{event_keyword, node_word_text, note_keyword, reason_keyword}

-- The keyword of the command that the row answers.
abbrev pub command_text : PlaceRow → List ℕ
command_text (place.Given name dim base) = codes "take"
command_text (place.Held name dim) = codes "take"
command_text (place.NoStation name dim) = codes "take"
command_text (place.NoSubcube name dim) = codes "take"
command_text (place.Freed name dim base) = codes "free"
command_text (place.NothingHeld name) = codes "free"

-- The name in a row that answers a command.
abbrev pub name_in : PlaceRow → List ℕ
name_in (place.Given name dim base) = name
name_in (place.Held name dim) = name
name_in (place.NoStation name dim) = name
name_in (place.NoSubcube name dim) = name
name_in (place.Freed name dim base) = name
name_in (place.NothingHeld name) = name

-- The dimension of the block, if the row has one.
abbrev pub dim_in : PlaceRow → Option ℕ
dim_in (place.Given name dim base) = Some dim
dim_in (place.Held name dim) = Some dim
dim_in (place.NoStation name dim) = Some dim
dim_in (place.NoSubcube name dim) = Some dim
dim_in (place.Freed name dim base) = Some dim
dim_in (place.NothingHeld name) = None

-- The base of the block that was given or freed, if one was.
abbrev pub base_in : PlaceRow → Option ℕ
base_in (place.Given name dim base) = Some base
base_in (place.Held name dim) = None
base_in (place.NoStation name dim) = None
base_in (place.NoSubcube name dim) = None
base_in (place.Freed name dim base) = Some base
base_in (place.NothingHeld name) = None

-- The keyword of the outcome.
abbrev pub outcome_text : PlaceRow → List ℕ
outcome_text (place.Given name dim base) = codes "given"
outcome_text (place.Held name dim) = codes "held"
outcome_text (place.NoStation name dim) = codes "nostation"
outcome_text (place.NoSubcube name dim) = codes "nosubcube"
outcome_text (place.Freed name dim base) = codes "freed"
outcome_text (place.NothingHeld name) = codes "nothingheld"

-- The station in a row of a replay, if it has one.
abbrev pub station_in : ReplayRow → Option ℕ
station_in (row.Made event) = Some event.station
station_in (row.Refused station at why) = Some station
station_in (row.Word node word) = None
station_in (row.End count) = None

-- The keyword of what happened.
abbrev pub event_text : ReplayRow → List ℕ
event_text (row.Made event) = event_keyword event.kind
event_text (row.Refused station at why) = codes "refused"
event_text (row.Word node word) = codes "end"
event_text (row.End count) = codes "end"

-- The node in a row of a replay, if it has one.
abbrev pub node_in : ReplayRow → Option ℕ
node_in (row.Made event) = Some event.node
node_in (row.Refused station at why) = at
node_in (row.Word node word) = Some node
node_in (row.End count) = None

-- The text of the node's word, or a dash.
abbrev pub word_in : ReplayRow → List ℕ
word_in (row.Made event) = node_word_text event.node event.word
word_in (row.Refused station at why) = codes "-"
word_in (row.Word node word) = node_word_text node word
word_in (row.End count) = codes "-"

-- The last field: how the event ended, why the call was refused, or the count.
abbrev pub end_text : ReplayRow → List ℕ
end_text (row.Made event) = note_keyword event.note
end_text (row.Refused station at why) = reason_keyword why
end_text (row.Word node word) = codes "-"
end_text (row.End count) = decimal count
