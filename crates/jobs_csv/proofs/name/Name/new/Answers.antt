use Rattle.std.proofs.Common.{rules, ◌≡◌, true, arith}
use Rattle.jobs_csv.specs.Name.{is_name}
use Rattle.jobs_csv.specs.Inner.Name.{zeros}
use Rattle.jobs_csv.proofs.NameLemmas.{padded}
use Rattle.jobs_csv.proofs.name.Name.new.Goals as goal

pub invariant_of-result : goal.invariant_of-result
unfolding zeros
invariant_of-result c =
    let good : is_name c.args.text.now ≡ true = search rules in
    rw c.copy_from_slice.ensures.after (padded c.args.text.now (omega (arith, c.if-text-gt-MAX_NAME.false)) good)
