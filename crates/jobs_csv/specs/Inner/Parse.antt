-- What a call returns for the parse of a part of a record, for the proofs of the formats.
use Rattle.std.specs.Prelude.{◌≡◌, ⊤, Result, Ok, Err}
use Rattle.jobs_csv.specs.declared.fault.FaultKind.{FaultKind}
use Rattle.jobs_csv.specs.declared.fault.FaultKind.TheVariants as what

-- The error is the one that the parse gives, or `OutOfMemory`, which no parse gives.
abbrev pub IsParseError : {A : Type 0} → Result A FaultKind → FaultKind → Type 0
IsParseError parse what.Fields = parse ≡ Err what.Fields
IsParseError parse what.Number = parse ≡ Err what.Number
IsParseError parse what.Word = parse ≡ Err what.Word
IsParseError parse (what.Job reason) = parse ≡ Err (what.Job reason)
IsParseError parse what.Read = ⊥
IsParseError parse what.Write = ⊥
IsParseError parse what.OutOfMemory = ⊤
IsParseError parse what.TooMany = parse ≡ Err what.TooMany
IsParseError parse what.Spent = ⊥

-- The call returned the parse's value or its error, or ran out of memory.
abbrev pub ReturnsParse : {A B : Type 0}
    → (A → B)
    → Result B FaultKind
    → Result A FaultKind
    → Type 0
ReturnsParse view parse (Ok x) = parse ≡ Ok (view x)
ReturnsParse view parse (Err w) = IsParseError parse w
