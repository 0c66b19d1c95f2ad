-- The parse of a file of commands: takes and releases of blocks under names.
use Rattle.std.specs.Prelude.{◌≤◌, ℕ, ⊤, List, [], ◌∷◌, codes, Result, Ok, Err, if◌then◌else◌}
use Rattle.std.specs.Str.{bytes_eq}
use Rattle.jobs_csv.specs.declared.fault.Fault.{Fault}
use Rattle.jobs_csv.specs.declared.fault.FaultKind.{FaultKind}
use Rattle.jobs_csv.specs.declared.fault.FaultKind.TheVariants as what
use Rattle.jobs_csv.specs.declared.place.Command.{Command}
use Rattle.jobs_csv.specs.declared.place.Command.TheVariants as command
use Rattle.jobs_csv.specs.Columns.{header_of}
use Rattle.jobs_csv.specs.Fields.{dash_of, number_within}
use Rattle.jobs_csv.specs.Files.{Record, parse_file}
use Rattle.jobs_csv.specs.Name.{is_name}
use Rattle.jobs_csv.specs.Outcome.{◌>>=◌}

-- The parse of the field of a name.
unfoldable pub name_of : List ℕ → Result (List ℕ) FaultKind
name_of field = if is_name field then Ok field else Err what.Word

-- The parse of a command's record, on a machine of dimension `n`. A `take` has a dimension of at
-- most `n`. The last field of a `free` is a dash.
unfoldable pub command_of : ℕ → Record → Result Command FaultKind
command_of n (verb ∷ name ∷ dim ∷ []) =
    if bytes_eq verb (codes "take") then
    (name_of name >>= (λ text. number_within 0 n dim >>= (λ k. Ok (command.Take text k))))
    else if bytes_eq verb (codes "free") then
    (name_of name >>= (λ text. dash_of dim >>= (λ nothing. Ok (command.Free text))))
    else Err what.Word
command_of n _ = Err what.Fields

-- The parse of a file of commands, for a machine of dimension `n`.
abbrev pub parse_commands : ℕ → List ℕ → Result (List Command) Fault
parse_commands n bytes =
    parse_file (header_of (codes "command" ∷ codes "name" ∷ codes "dim" ∷ [])) (command_of n) bytes

-- A machine of dimension `n` has blocks of the dimension of the take.
abbrev pub Fits : ℕ → Command → Type 0
Fits n (command.Take name dim) = dim ≤ n
Fits n (command.Free name) = ⊤
