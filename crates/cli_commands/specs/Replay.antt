-- How a schedule is played: the step relation of one act, of one line, and a whole schedule.
use Rattle.std.specs.Prelude.{◌≡◌, ℕ, ◌+◌, ◌-◌, ◌^◌, ◌==◌, Bool, true, false, List, [], ◌∷◌, ◌++◌, length, replicate, nat_lt, Option, Some, None, if◌then◌else◌}
use Rattle.std.specs.List.{flat_map, range_with_len}
use Rattle.cube_core.specs.declared.act.Act.{Act}
use Rattle.cube_core.specs.declared.act.Act.TheVariants as act
use Rattle.cube_core.specs.declared.act.Refused.{Refused}
use Rattle.cube_core.specs.declared.event.Event.{Event}
use Rattle.cube_core.specs.Phase.{IsAtRest}
use Rattle.cube_core.specs.Schedule.{State, apply, initial, phase_of, refusal, station_of, trail_of, word_of}
use Rattle.cube_core.specs.World.{without_trails}
use Rattle.jobs_csv.specs.declared.schedule.Line.{Line}
use Rattle.jobs_csv.specs.declared.schedule.Line.TheVariants as line
use Rattle.jobs_csv.specs.declared.replay_rows.ReplayRow.{ReplayRow}
use Rattle.jobs_csv.specs.declared.replay_rows.ReplayRow.TheVariants as row
use Rattle.cli_commands.specs.Trace.{IsTrace}

-- The station of the act makes this event: its trail grows by it.
abbrev pub EmitsEvent : Act → State → Event → Type 0
EmitsEvent a w event = trail_of (apply a w) (station_of a) ≡ event ∷ trail_of w (station_of a)

-- The rows of an accepted act: one for an event, and none for a take or a release, which only
-- begins.
abbrev pub AreRows : Act → State → List ReplayRow → Type 0
AreRows (act.Take station node) w rows = rows ≡ []
AreRows (act.Release station) w rows = rows ≡ []
AreRows a w rows = (event : Event) × EmitsEvent a w event × (rows ≡ row.Made event ∷ [])

-- The row of a refused act. It shows the node that a take asked for.
abbrev pub refused_row : Act → Refused → ReplayRow
refused_row (act.Take station node) why = row.Refused station (Some node) why
refused_row a why = row.Refused (station_of a) None why

-- The step relation of one act, by its refusal. A refused act changes nothing and has one row. An
-- accepted act leads to the world that `apply` computes, without trails.
abbrev pub ActStepUnless : Option Refused → Act → State → State → List ReplayRow → Type 0
ActStepUnless (Some why) a old new rows = (new ≡ old) × (rows ≡ refused_row a why ∷ [])
ActStepUnless None a old new rows = (new ≡ without_trails (apply a old)) × AreRows a old rows

-- The step relation of one act, refused or not.
abbrev pub ActStep : Act → State → State → List ReplayRow → Type 0
ActStep a old new rows = ActStepUnless (refusal a old) a old new rows

-- The step relation of one accepted act.
abbrev pub AcceptedStep : Act → State → State → List ReplayRow → Type 0
AcceptedStep a old new rows = (refusal a old ≡ None) × ActStep a old new rows

-- The station makes steps until it is at rest.
pub record RestsAfter (station : ℕ) (old new : State) (rows : List ReplayRow) : Type 0 where
  pub steps : ℕ
  pub made : IsTrace AcceptedStep (replicate steps (act.Step station)) old new rows
  pub rests : IsAtRest (phase_of new station)

-- The run of a station, if the machine has it. A run of any other is one step, which is refused.
abbrev pub RunSteps : Bool → ℕ → State → State → List ReplayRow → Type 0
RunSteps true station old new rows = RestsAfter station old new rows
RunSteps false station old new rows = ActStep (act.Step station) old new rows

-- The step relation of one line of a schedule.
abbrev pub IsPlayed : Line → State → State → List ReplayRow → Type 0
IsPlayed (line.Take station node) old new rows = ActStep (act.Take station node) old new rows
IsPlayed (line.Release station) old new rows = ActStep (act.Release station) old new rows
IsPlayed (line.Step station times) old new rows =
    IsTrace ActStep (replicate times (act.Step station)) old new rows
IsPlayed (line.Run station) old new rows =
    RunSteps (nat_lt station (length old.records)) station old new rows
IsPlayed (line.Retire station) old new rows = ActStep (act.Retire station) old new rows

-- The row of a node, if its word is not 0.
abbrev pub word_row : State → ℕ → List ReplayRow
word_row w node = if word_of w node == 0 then [] else row.Word node (word_of w node) ∷ []

-- The rows of all nodes whose word is not 0, by rising node.
abbrev pub words_left : State → List ReplayRow
words_left w = flat_map (word_row w) (range_with_len 1 (2 ^ (w.dim + 1) - 1))

-- The rows of the end: the words that are not 0, and their number.
abbrev pub final_rows : State → List ReplayRow
final_rows w = words_left w ++ row.End (length (words_left w)) ∷ []

-- The rows of a whole schedule, on a machine at rest at first: those of its lines, and then those
-- of the end.
abbrev pub AreReplayed : ℕ → ℕ → List Line → List ReplayRow → Type 0
AreReplayed n stations lines rows =
    (last : State) × (played : List ReplayRow)
    × IsTrace IsPlayed lines (initial n stations) last played × (rows ≡ played ++ final_rows last)
