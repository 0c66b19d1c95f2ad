-- What a command does with the bytes that it reads and the text that it writes, and why it fails.
use Rattle.std.specs.Prelude.{◌≡◌, ◌⊎◌, ℕ, true, List, Option, Result, Ok, Err}
use Rattle.std.specs.Io.KnownBytes.{Appends}
use Rattle.jobs_csv.specs.declared.fault.Fault.{Fault}
use Rattle.jobs_csv.specs.declared.fault.FaultKind.TheVariants as what
use Rattle.jobs_csv.specs.Fault.{IsInputFault, attribute, is_refusal}

-- The file is good, rows answer all that it asks for, and their text was written after what the
-- writer held.
pub record IsDone {Thing Row : Type 0} (parse : Result (List Thing) Fault)
    (answers : List Thing → List Row → Type 0) (text : List Row → List ℕ)
    (old new : Option (List ℕ)) : Type 0 where
  pub things : List Thing
  pub rows : List Row
  pub good : parse ≡ Ok things
  pub answered : answers things rows
  pub written : Appends old new (text rows)

-- The command is done (`IsDone`), or it failed. A refusal is the first fault of the file.
abbrev pub IsAnswer : {Thing Row : Type 0}
    → Result (List Thing) Fault
    → (List Thing → List Row → Type 0)
    → (List Row → List ℕ)
    → Option (List ℕ)
    → Option (List ℕ)
    → Result (Unit {0}) Fault
    → Type 0
IsAnswer parse answers text old new (Ok done) = IsDone parse answers text old new
IsAnswer parse answers text old new (Err fault) = is_refusal fault.what ≡ true → parse ≡ Err fault

-- The fault of a command: the input is refused, or reading failed, or writing failed, each by
-- `attribute`. The numbers count the failed calls of the reader and of the writer, before the
-- command and after it.
abbrev pub IsCommandFault : ℕ → ℕ → ℕ → ℕ → Fault → Type 0
IsCommandFault read_before read_after write_before write_after fault =
    IsInputFault read_before read_after fault
    ⊎ (fault ≡ attribute what.Write write_before write_after)

-- Memory ran out while the jobs ran, or a lane had no number left.
abbrev pub IsShopFault : Fault → Type 0
IsShopFault fault =
    (fault ≡ record { row = 0; what = what.OutOfMemory })
    ⊎ (fault ≡ record { row = 0; what = what.Spent })

-- The fault of a command that runs jobs on threads: one of `IsCommandFault` or of `IsShopFault`.
abbrev pub IsRunFault : ℕ → ℕ → ℕ → ℕ → Fault → Type 0
IsRunFault read_before read_after write_before write_after fault =
    IsCommandFault read_before read_after write_before write_after fault ⊎ IsShopFault fault

-- The fault is met before the first row is made. The input is refused, or reading failed, or a lane
-- had no number left.
abbrev pub IsMetBeforeWriting : Fault → Type 0
IsMetBeforeWriting fault =
    (is_refusal fault.what ≡ true) ⊎ (fault.what ≡ what.Read) ⊎ (fault.what ≡ what.Spent)
