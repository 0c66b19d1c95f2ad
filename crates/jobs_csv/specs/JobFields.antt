-- The parse of the fields of a job's record.
use Rattle.std.specs.Prelude.{ℕ, ◌==◌, Bool, false, not, List, [], ◌∷◌, codes, Option, Some, option_and_then, Result, Ok, Err, if◌then◌else◌}
use Rattle.std.specs.List.{slice_split}
use Rattle.std.specs.Str.{bytes_eq}
use Rattle.job_types.specs.declared.kind.Kind.{Kind}
use Rattle.job_types.specs.declared.kind.Kind.TheVariants as kind
use Rattle.job_types.specs.declared.kind.Op.{Op}
use Rattle.job_types.specs.declared.kind.Op.TheVariants as op
use Rattle.jobs_csv.specs.declared.fault.FaultKind.{FaultKind}
use Rattle.jobs_csv.specs.declared.fault.FaultKind.TheVariants as what
use Rattle.jobs_csv.specs.Fields.{among, any_number, dash_of, number_of}
use Rattle.jobs_csv.specs.Outcome.{or_refuse, ◌>>=◌}

-- The parse of the field of an operation.
unfoldable pub op_of : List ℕ → Result Op FaultKind
op_of field = among ((codes "add", op.Add) ∷ (codes "min", op.Min) ∷ (codes "max", op.Max)
    ∷ (codes "xor", op.Xor) ∷ (codes "and", op.And) ∷ (codes "or", op.Or) ∷ []) field

-- The parse of the three fields of a collective. A broadcast has a dash as its operation. The root
-- is a number in every record, and an all-reduce, a scan and an exclusive scan do not keep it.
unfoldable pub collective_of : List ℕ → List ℕ → List ℕ → Result Kind FaultKind
collective_of word join root =
    if bytes_eq word (codes "broadcast")
    then (dash_of join >>= (λ nothing. any_number root >>= (λ r. Ok (kind.Broadcast r))))
    else if bytes_eq word (codes "reduce")
    then (op_of join >>= (λ op. any_number root >>= (λ r. Ok (kind.Reduce op r))))
    else if bytes_eq word (codes "allreduce")
    then (op_of join >>= (λ op. any_number root >>= (λ r. Ok (kind.AllReduce op))))
    else if bytes_eq word (codes "scan")
    then (op_of join >>= (λ op. any_number root >>= (λ r. Ok (kind.Scan op))))
    else if bytes_eq word (codes "exscan")
    then (op_of join >>= (λ op. any_number root >>= (λ r. Ok (kind.ExScan op))))
    else Err what.Word

-- Whether the collective has no root, and the field of its root is not `0`.
abbrev pub has_superfluous_root : Kind → List ℕ → Bool
has_superfluous_root (kind.Broadcast own) root = false
has_superfluous_root (kind.Reduce op own) root = false
has_superfluous_root _ root = not (bytes_eq root (codes "0"))

-- The numbers of all pieces, if each is a number.
unfoldable pub all_numbers : List (List ℕ) → Option (List ℕ)
all_numbers [] = Some []
all_numbers (piece ∷ pieces) =
    option_and_then (λ x. option_and_then (λ xs. Some (x ∷ xs)) (all_numbers pieces))
    (number_of piece)

-- The numbers of a field, with one space between each two. An empty field has none.
unfoldable pub numbers_of : List ℕ → Option (List ℕ)
numbers_of [] = Some []
numbers_of (first ∷ rest) = all_numbers (slice_split (λ byte. byte == 32) (first ∷ rest))

-- The parse of the field of a job's items.
unfoldable pub items_of : List ℕ → Result (List ℕ) FaultKind
items_of field = or_refuse what.Number (numbers_of field)
