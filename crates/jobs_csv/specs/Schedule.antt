-- The parse of a schedule: calls and steps of stations, one after the other.
use Rattle.std.specs.Prelude.{◌≤◌, ℕ, ⊤, List, [], ◌∷◌, codes, Result, Ok, Err, if◌then◌else◌}
use Rattle.std.specs.Str.{bytes_eq}
use Rattle.jobs_csv.specs.declared.fault.Fault.{Fault}
use Rattle.jobs_csv.specs.declared.fault.FaultKind.{FaultKind}
use Rattle.jobs_csv.specs.declared.fault.FaultKind.TheVariants as what
use Rattle.jobs_csv.specs.declared.schedule.Line.{Line}
use Rattle.jobs_csv.specs.declared.schedule.Line.TheVariants as line
use Rattle.jobs_csv.specs.declared.schedule.TheConstants.{MAX_STEPS}
use Rattle.jobs_csv.specs.Columns.{header_of}
use Rattle.jobs_csv.specs.Fields.{any_number, dash_of, number_within}
use Rattle.jobs_csv.specs.Files.{Record, parse_file}
use Rattle.jobs_csv.specs.Outcome.{◌>>=◌}

-- The parse of a station's keyword and last field. The last field is the node of a take, the number
-- of steps, and a dash for the others.
unfoldable pub keyword_line : ℕ → List ℕ → List ℕ → Result Line FaultKind
keyword_line s keyword arg =
    if bytes_eq keyword (codes "take") then (any_number arg >>= (λ node. Ok (line.Take s node)))
    else if bytes_eq keyword (codes "release") then
    (dash_of arg >>= (λ nothing. Ok (line.Release s)))
    else if bytes_eq keyword (codes "step") then
    (number_within 1 MAX_STEPS arg >>= (λ times. Ok (line.Step s times)))
    else if bytes_eq keyword (codes "run") then (dash_of arg >>= (λ nothing. Ok (line.Run s)))
    else if bytes_eq keyword (codes "retire") then (dash_of arg >>= (λ nothing. Ok (line.Retire s)))
    else Err what.Word

-- The parse of a line's record.
unfoldable pub schedule_line : Record → Result Line FaultKind
schedule_line (station ∷ keyword ∷ arg ∷ []) =
    any_number station >>= (λ s. keyword_line s keyword arg)
schedule_line _ = Err what.Fields

-- The parse of a schedule.
abbrev pub parse_schedule : List ℕ → Result (List Line) Fault
parse_schedule bytes =
    parse_file (header_of (codes "station" ∷ codes "call" ∷ codes "arg" ∷ [])) schedule_line bytes

-- The number of steps of a line, if it has one, is from 1 to `MAX_STEPS`.
abbrev pub HasValidCount : Line → Type 0
HasValidCount (line.Step station times) = (1 ≤ times) × (times ≤ MAX_STEPS)
HasValidCount _ = ⊤
