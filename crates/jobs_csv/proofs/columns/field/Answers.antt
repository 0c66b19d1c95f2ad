use Rattle.std.proofs.Common.{rules, ◌≡◌, true, is_some}
use Rattle.csv.specs.Records.{fields_of, field_at}
use Rattle.jobs_csv.proofs.ColumnLemmas.{has_field}
use Rattle.jobs_csv.proofs.columns.field.Goals as goal

pub unwrap-requires : goal.unwrap-requires
unwrap-requires c =
    let there : is_some (field_at (fields_of c.args.row.now) c.args.index) ≡ true = has_field _ _ c.requires in
    search (rules, c.get.ensures.value, there)
