use Rattle.std.proofs.Common.{◌≡◌, ◌∷◌, [], ◌++◌, List, ℕ, length, drop, ap, ◌∙◌, arith, rules}
use Rattle.std.specs.Fmt.{decimal}
use Rattle.std.proofs.lemmas.Fmt.{length-decimal-le}
use Rattle.std.proofs.lemmas.List.{length_push, take_all}
use Rattle.jobs_csv.specs.declared.row.TheConstants.{MAX_DIGITS}
use Rattle.jobs_csv.proofs.EndedLemmas.{field_pushed, more_ended}
use Rattle.jobs_csv.proofs.PlainLemmas.{plain_decimal}
use Rattle.jobs_csv.proofs.row.push_digits.Goals as goal

pub write_digits-start-requires : goal.write_digits-start-requires
write_digits-start-requires c = (omega (arith, length-decimal-le MAX_DIGITS c.args.number (omega arith) (omega arith) c.ranges.number.fits), omega arith)

-- the digits and the comma are appended
pushed : (c : goal.In_ok-extend_from_slice)
    → c.extend_from_slice.new.self.items ≡ c.args.line.now.items ++ (decimal c.args.number ++ 44 ∷ [])
pushed c =
    let written = c.write_digits-start in
    let digits = drop written.result written.new.buf in
    let text : digits ≡ decimal c.args.number ++ 44 ∷ [] = search rules in
    let count = ap (λ (l : List ℕ). length l) text ∙ length_push (decimal c.args.number) 44 in
    let whole = take_all _ digits (omega (arith, count, written.ensures.start)) in
    c.in_ok-extend_from_slice.ensures.items ∙ ap (λ (l : List ℕ). c.args.line.now.items ++ l) (whole ∙ text)

pub returns-clause-has : goal.returns-clause-has
returns-clause-has c = rw (pushed c) (more_ended c.args.line.now.items (decimal c.args.number) (plain_decimal c.args.number c.ranges.number.fits) c.requires.had)

pub returns-clause-pushed : goal.returns-clause-pushed
returns-clause-pushed c = rw (pushed c) (field_pushed c.args.line.now.items (decimal c.args.number) (plain_decimal c.args.number c.ranges.number.fits) c.requires.had)
