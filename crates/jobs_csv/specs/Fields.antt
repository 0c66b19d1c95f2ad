-- The parse of single fields. Fields are lists of bytes.
use Rattle.std.specs.Prelude.{ℕ, ◌+◌, ◌-◌, ◌*◌, ◌^◌, ◌==◌, ◌&&◌, ◌||◌, Bool, true, false, not, List, [], ◌∷◌, fold, nat_lt, codes, Option, Some, None, option_and_then, Result, Ok, Err, if◌then◌else◌}
use Rattle.std.specs.List.{list_all}
use Rattle.std.specs.Char.{is_ascii_digit}
use Rattle.std.specs.Str.{bytes_eq}
use Rattle.jobs_csv.specs.declared.fault.FaultKind.{FaultKind}
use Rattle.jobs_csv.specs.declared.fault.FaultKind.TheVariants as what
use Rattle.jobs_csv.specs.Outcome.{or_refuse}

-- The number that decimal digits write.
abbrev pub value_of : List ℕ → ℕ
value_of digits = fold (λ value digit. 10 * value + (digit - 48)) 0 digits

-- Whether there is a digit, and the first one is `0` only if it is the only one.
abbrev pub has_no_leading_zero : List ℕ → Bool
has_no_leading_zero [] = false
has_no_leading_zero (first ∷ []) = true
has_no_leading_zero (first ∷ second ∷ rest) = not (first == 48)

-- Whether the field is a number: digits with no leading zero, whose value is below `2^64`.
abbrev pub is_number : List ℕ → Bool
is_number field =
    has_no_leading_zero field && list_all is_ascii_digit field && nat_lt (value_of field) (2 ^ 64)

-- The number of a field, if it is one.
unfoldable pub number_of : List ℕ → Option ℕ
number_of field = if is_number field then Some (value_of field) else None

-- The parse of a field that is any number.
unfoldable pub any_number : List ℕ → Result ℕ FaultKind
any_number field = or_refuse what.Number (number_of field)

-- The number, if it is from `low` to `high`.
abbrev pub within : ℕ → ℕ → ℕ → Option ℕ
within low high number = if nat_lt number low || nat_lt high number then None else Some number

-- The parse of a field that is a number from `low` to `high`.
unfoldable pub number_within : ℕ → ℕ → List ℕ → Result ℕ FaultKind
number_within low high field =
    or_refuse what.Number (option_and_then (within low high) (number_of field))

-- The parse of a field that is one of the texts of a table. It gives the value of that text.
unfoldable pub among : {A : Type 0} → List (List ℕ × A) → List ℕ → Result A FaultKind
among [] field = Err what.Word
among ((text, value) ∷ others) field = if bytes_eq field text then Ok value else among others field

-- The parse of a field that is a dash, which means that there is nothing.
unfoldable pub dash_of : List ℕ → Result (Unit {0}) FaultKind
dash_of field = if bytes_eq field (codes "-") then Ok tt else Err what.Word
