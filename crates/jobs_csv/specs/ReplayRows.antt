-- The rows of a replay: the events, the calls that were refused, and the words at the end.
use Rattle.std.specs.Prelude.{ℕ, ◌==◌, List, [], ◌∷◌, codes, if◌then◌else◌}
use Rattle.std.specs.Fmt.{decimal}
use Rattle.status_word.specs.Text.{word_text}
use Rattle.cube_core.specs.declared.act.Refused.{Refused}
use Rattle.cube_core.specs.declared.act.Refused.TheVariants as why
use Rattle.cube_core.specs.declared.event.Kind.{Kind}
use Rattle.cube_core.specs.declared.event.Kind.TheVariants as kind
use Rattle.cube_core.specs.declared.event.Note.{Note}
use Rattle.cube_core.specs.declared.event.Note.TheVariants as note
use Rattle.jobs_csv.specs.declared.replay_rows.ReplayRow.{ReplayRow}
use Rattle.jobs_csv.specs.declared.replay_rows.ReplayRow.TheVariants as row
use Rattle.jobs_csv.specs.Text.{number_text}

-- The keyword of an event.
abbrev pub event_keyword : Kind → List ℕ
event_keyword kind.Look = codes "look"
event_keyword kind.Claim = codes "claim"
event_keyword kind.Sweep = codes "sweep"
event_keyword kind.Raise = codes "raise"
event_keyword kind.Zero = codes "zero"
event_keyword kind.Unmark = codes "unmark"
event_keyword kind.Mark = codes "mark"
event_keyword kind.Child = codes "child"
event_keyword kind.Clear = codes "clear"
event_keyword kind.Retire = codes "retire"

-- The keyword of how an event ended.
abbrev pub note_keyword : Note → List ℕ
note_keyword note.Free = codes "free"
note_keyword note.InUse = codes "inuse"
note_keyword note.Lost = codes "lost"
note_keyword note.Climb = codes "climb"
note_keyword note.Held = codes "held"
note_keyword note.Ok = codes "ok"
note_keyword note.Under = codes "under"
note_keyword note.Done = codes "done"
note_keyword note.Stop = codes "stop"
note_keyword note.Used = codes "used"
note_keyword note.Keep = codes "keep"
note_keyword note.Retired = codes "retired"

-- The keyword of a refusal.
abbrev pub reason_keyword : Refused → List ℕ
reason_keyword why.NotIdle = codes "notidle"
reason_keyword why.NotHolding = codes "notholding"
reason_keyword why.NoStation = codes "nostation"
reason_keyword why.NotInCube = codes "notincube"
reason_keyword why.Resting = codes "resting"

-- The text of a node's word. The roll, which is no node, has a dash.
abbrev pub node_word_text : ℕ → ℕ → List ℕ
node_word_text node word = if node == 0 then codes "-" else word_text word

-- The columns of a replay.
abbrev pub replay_columns : List (List ℕ)
replay_columns = codes "station" ∷ codes "event" ∷ codes "node" ∷ codes "word" ∷ codes "note" ∷ []

-- The fields of a row of a replay.
abbrev pub replay_fields : ReplayRow → List (List ℕ)
replay_fields (row.Made event) =
    decimal event.station ∷ event_keyword event.kind ∷ decimal event.node ∷ node_word_text
    event.node event.word ∷ note_keyword event.note ∷ []
replay_fields (row.Refused station at why) =
    decimal station ∷ codes "refused" ∷ number_text at ∷ codes "-" ∷ reason_keyword why ∷ []
replay_fields (row.Word node word) =
    codes "-" ∷ codes "end" ∷ decimal node ∷ node_word_text node word ∷ codes "-" ∷ []
replay_fields (row.End count) = codes "-" ∷ codes "end" ∷ codes "-" ∷ codes "-" ∷ decimal count ∷ []
