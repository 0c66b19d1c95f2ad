-- The parse of an input, which is its value or its first refusal, and what a call returns for it.
use Rattle.std.specs.Prelude.{◌≡◌, true, List, Vec, Option, Some, None, Result, Ok, Err}
use Rattle.std.specs.Global.{Global}
use Rattle.jobs_csv.specs.declared.fault.Fault.{Fault}
use Rattle.jobs_csv.specs.declared.fault.FaultKind.{FaultKind}
use Rattle.jobs_csv.specs.Fault.{is_refusal}

infixl 10 ◌>>=◌
-- One parse after another: nothing is read after a refusal.
abbrev pub ◌>>=◌ : {A B E : Type 0} → Result A E → (A → Result B E) → Result B E
Ok x >>= f = f x
Err e >>= f = Err e

-- The value, or this refusal if there is none.
abbrev pub or_refuse : {A : Type 0} → FaultKind → Option A → Result A FaultKind
or_refuse w None = Err w
or_refuse w (Some x) = Ok x

-- What a call returns for a file: the rows of the parse, or a fault. A refusal is the parse's.
abbrev pub ReturnsFile : {Row : Type 0}
    → Result (List Row) Fault
    → Result (Vec Row Global) Fault
    → Type 0
ReturnsFile parse (Ok rows) = parse ≡ Ok rows.items
ReturnsFile parse (Err fault) = is_refusal fault.what ≡ true → parse ≡ Err fault

-- What a call returns for a file whose rows it pushes into a collection: the collection of the
-- parse's rows, or a fault. A refusal is the parse's.
abbrev pub ReturnsRows : {Row G : Type 0}
    → (G → List Row → Type 0)
    → Result (List Row) Fault
    → Result G Fault
    → Type 0
ReturnsRows {Row} contents parse (Ok gathered) =
    (rows : List Row) × (parse ≡ Ok rows) × contents gathered rows
ReturnsRows contents parse (Err fault) = is_refusal fault.what ≡ true → parse ≡ Err fault
