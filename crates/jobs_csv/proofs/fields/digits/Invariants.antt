use Rattle.std.proofs.Common.{◌≡◌, ◌+◌, ◌*◌, ◌-◌, ◌^◌, ◌<◌, drop, fold}
use Rattle.std.specs.List.{list_all}
use Rattle.std.specs.Char.{is_ascii_digit}
use Rattle.jobs_csv.specs.Fields.{value_of}
use Rattle.jobs_csv.proofs.fields.digits.Given as goal

-- the value so far, continued by the digits that are left, is that of all
abbrev pub invariant-loop-byte : goal.invariant-loop-byte
invariant-loop-byte l = record {
  small : l.value < 2 ^ 64;
  digits : list_all is_ascii_digit (drop l.byte-index l.field) ≡ list_all is_ascii_digit l.field;
  value : fold (λ value digit. 10 * value + (digit - 48)) l.value (drop l.byte-index l.field)
      ≡ value_of l.field;
}
