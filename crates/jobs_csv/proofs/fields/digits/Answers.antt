use Rattle.std.proofs.Common.{◌≡◌, ℕ, ◌+◌, ◌*◌, ◌-◌, ◌^◌, ◌<◌, ◌≤◌, ◌&&◌, Bool, true, false, List, [], ◌∷◌, length, drop, fold, get_or, nat_lt, Some, None, if◌then◌else◌, refl, arith}
use Rattle.std.proofs.lemmas.List.{at_drop_more}
use Rattle.std.proofs.lemmas.Bool.Decides.{nat_tests}
use Rattle.jobs_csv.specs.Fields.{value_of}
use Rattle.jobs_csv.proofs.fields.digits.Goals as goal

-- one more digit after the value
abbrev step : ℕ → ℕ → ℕ
step value digit = 10 * value + (digit - 48)

-- more digits make the value no smaller
at_least : (digits : List ℕ) (value : ℕ) → value ≤ fold step value digits
at_least [] value = omega arith
at_least (digit ∷ digits) value = omega (arith, at_least digits (10 * value + (digit - 48)))

-- a value that is too large after some digit is too large at the end
too_large : (field : List ℕ) (i value : ℕ)
    → i < length field
    → fold step value (drop i field) ≡ value_of field
    → 2 ^ 64 ≤ 10 * value + (get_or field i 0 - 48)
    → 2 ^ 64 ≤ value_of field
too_large field i value within rest large =
    let next = at_drop_more (fold step value) field i 0 within in
    let grows = at_least (drop (i + 1) field) (10 * value + (get_or field i 0 - 48)) in
    omega (arith, next, grows, rest, large)

-- a value that is too large is no answer
no_number : (digits : Bool) (value : ℕ)
    → 2 ^ 64 ≤ value
    → None ≡ (if digits && nat_lt value (2 ^ 64) then Some value else None)
no_number true value large = grind (arith, nat_tests)
no_number false value large = refl

pub returns-in_default : goal.returns-in_default
returns-in_default c =
    no_number _ _ (too_large c.args.field.now c.loop-byte.byte-index c.loop-byte.value (omega arith) c.loop-byte.invariant.value (omega (arith, c.in_default.ensures)))

pub returns-in_default-checked_add : goal.returns-in_default-checked_add
returns-in_default-checked_add c =
    no_number _ _ (too_large c.args.field.now c.loop-byte.byte-index c.loop-byte.value (omega arith) c.loop-byte.invariant.value (omega (arith, c.in-Some.ensures, c.in_default-checked_add.ensures, c.from-digit.ensures)))
