-- Headers: the texts that the fields of the first record must have.
use Rattle.std.specs.Prelude.{ℕ, ◌==◌, List, length, Result, Ok, Err, if◌then◌else◌}
use Rattle.std.specs.Cmp.Lexicographic.{pointwise}
use Rattle.std.specs.Str.{bytes_eq}
use Rattle.jobs_csv.specs.declared.fault.FaultKind.{FaultKind}
use Rattle.jobs_csv.specs.declared.fault.FaultKind.TheVariants as what
use Rattle.jobs_csv.specs.Files.{Record}

-- The check of a header: as many fields as there are columns, and then their texts.
unfoldable pub header_of : List (List ℕ) → Record → Result (Unit {0}) FaultKind
header_of columns fields =
    if length fields == length columns
    then (if pointwise bytes_eq fields columns then Ok tt else Err what.Word) else Err what.Fields
