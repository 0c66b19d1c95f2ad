-- Which field of a record is at fault: the first that is not what its column asks for.
use Rattle.std.specs.Prelude.{ℕ, ◌||◌, Bool, false, not, is_some, List, [], ◌∷◌, codes, nat_lt, Option, Some, None, if◌then◌else◌}
use Rattle.std.specs.Option.{option_map_or}
use Rattle.std.specs.Str.{bytes_eq}
use Rattle.cube_shape.specs.declared.limits.TheConstants.{MAX_LANES}
use Rattle.jobs_csv.specs.declared.bad_field.Column.{Column}
use Rattle.jobs_csv.specs.declared.bad_field.Column.TheVariants as column
use Rattle.jobs_csv.specs.Fields.{number_of}
use Rattle.jobs_csv.specs.Files.{Record}
use Rattle.jobs_csv.specs.Name.{is_name}

-- The name of a column, as the header has it.
abbrev pub column_text : Column → List ℕ
column_text column.Lane = codes "lane"
column_text column.Kind = codes "kind"
column_text column.Op = codes "op"
column_text column.Root = codes "root"
column_text column.Items = codes "items"
column_text column.Command = codes "command"
column_text column.Name = codes "name"
column_text column.Dim = codes "dim"
column_text column.Station = codes "station"
column_text column.Call = codes "call"
column_text column.Arg = codes "arg"

-- The place of a column in its record, from 0 on.
abbrev pub column_index : Column → ℕ
column_index column.Lane = 0
column_index column.Kind = 1
column_index column.Op = 2
column_index column.Root = 3
column_index column.Items = 4
column_index column.Command = 0
column_index column.Name = 1
column_index column.Dim = 2
column_index column.Station = 0
column_index column.Call = 1
column_index column.Arg = 2

-- Whether the field is a number.
abbrev pub is_any_number : List ℕ → Bool
is_any_number field = is_some (number_of field)

-- Whether the field is the number of a lane.
abbrev pub is_lane : List ℕ → Bool
is_lane field = option_map_or (λ lane. nat_lt lane MAX_LANES) (number_of field) false

-- Whether the field is the keyword of a collective.
abbrev pub is_kind : List ℕ → Bool
is_kind field =
    bytes_eq field (codes "broadcast") || bytes_eq field (codes "reduce")
    || bytes_eq field (codes "allreduce") || bytes_eq field (codes "scan")
    || bytes_eq field (codes "exscan")

-- Whether the field is the keyword of an operation.
abbrev pub is_join : List ℕ → Bool
is_join field =
    bytes_eq field (codes "add") || bytes_eq field (codes "min") || bytes_eq field (codes "max")
    || bytes_eq field (codes "xor") || bytes_eq field (codes "and") || bytes_eq field (codes "or")

-- Whether the field is the operation of a collective of this kind. A broadcast has a dash.
abbrev pub is_op : List ℕ → List ℕ → Bool
is_op kind field =
    if bytes_eq kind (codes "broadcast") then bytes_eq field (codes "-") else is_join field

-- The field at fault in a job's record, if the record has five fields.
abbrev pub bad_job_field : Record → Option Column
bad_job_field (lane ∷ kind ∷ op ∷ root ∷ items ∷ []) =
    Some (if not (is_lane lane) then column.Lane else if not (is_kind kind) then column.Kind
    else if not (is_op kind op) then column.Op else if not (is_any_number root) then column.Root
    else column.Items)
bad_job_field _ = None

-- Whether the field is the keyword of a command.
abbrev pub is_verb : List ℕ → Bool
is_verb field = bytes_eq field (codes "take") || bytes_eq field (codes "free")

-- The field at fault in a command's record, if the record has three fields.
abbrev pub bad_command_field : Record → Option Column
bad_command_field (verb ∷ name ∷ dim ∷ []) =
    Some (if not (is_verb verb) then column.Command else if not (is_name name) then column.Name
    else column.Dim)
bad_command_field _ = None

-- Whether the field is the keyword of a call.
abbrev pub is_call : List ℕ → Bool
is_call field =
    bytes_eq field (codes "take") || bytes_eq field (codes "release")
    || bytes_eq field (codes "step") || bytes_eq field (codes "run")
    || bytes_eq field (codes "retire")

-- The field at fault in a line of a schedule, if the record has three fields.
abbrev pub bad_line_field : Record → Option Column
bad_line_field (station ∷ call ∷ arg ∷ []) =
    Some (if not (is_any_number station) then column.Station
    else if not (is_call call) then column.Call else column.Arg)
bad_line_field _ = None

-- The column of three whose text is wrong in a header, if the header has three fields.
abbrev pub bad_of_three : Column → Column → Column → Record → Option Column
bad_of_three first second third (f ∷ s ∷ t ∷ []) =
    Some (if not (bytes_eq f (column_text first)) then first
    else if not (bytes_eq s (column_text second)) then second else third)
bad_of_three first second third _ = None

-- The column whose text is wrong in the header of jobs, if the header has five fields.
abbrev pub bad_job_column : Record → Option Column
bad_job_column (lane ∷ kind ∷ op ∷ root ∷ items ∷ []) =
    Some (if not (bytes_eq lane (codes "lane")) then column.Lane
    else if not (bytes_eq kind (codes "kind")) then column.Kind
    else if not (bytes_eq op (codes "op")) then column.Op
    else if not (bytes_eq root (codes "root")) then column.Root else column.Items)
bad_job_column _ = None
