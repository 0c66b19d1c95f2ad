-- The fields of the rows of a report need no quotes.
use Rattle.std.proofs.Common.{◌≡◌, ℕ, ◌+◌, ◌%◌, ◌^◌, ◌<◌, ◌≤◌, false, [], ◌∷◌, codes, refl, arith}
use Rattle.std.specs.Fmt.{decimal}
use Rattle.std.proofs.lemmas.Bool.Decides.{nat_tests}
use Rattle.std.proofs.lemmas.Fmt.{decimal_by_steps_wide}
use Rattle.csv.specs.Writing.{default_writer, needs_byte}
use Rattle.jobs_csv.specs.declared.report_rows.ReportRow.{ReportRow}
use Rattle.jobs_csv.specs.declared.report_rows.ReportRow.TheVariants as row
use Rattle.jobs_csv.specs.Inner.ReportRows.{group_text}
use Rattle.jobs_csv.specs.Text.{IsPlainField}
use Rattle.jobs_csv.proofs.PlainLemmas.{all_one, all_both, plain_text}

plain_digit : (byte : ℕ) → 48 ≤ byte → needs_byte default_writer byte ≡ false
plain_digit byte digit = grind (arith, nat_tests)

-- a written number of 128 bits
pub plain_wide : (n : ℕ) → n < 2 ^ 128 → IsPlainField (decimal n)
plain_wide n lt =
    decimal_by_steps_wide (λ _ digits. IsPlainField digits)
    (λ digit _. all_one (48 + digit) (plain_digit (48 + digit) (omega arith)))
    (λ more digits _ p. all_both digits ((48 + more % 10) ∷ []) p (all_one (48 + more % 10) (plain_digit (48 + more % 10) (omega arith))))
    n (omega (arith, lt))

pub plain_group : (r : ReportRow) → IsPlainField (group_text r)
plain_group (row.Lane lane jobs processors idle) = plain_text (codes "lane") refl
plain_group (row.Dim dim jobs processors idle) = plain_text (codes "dim") refl
plain_group (row.Free dim regions processors) = plain_text (codes "free") refl
plain_group (row.Total jobs processors idle) = plain_text (codes "total") refl
