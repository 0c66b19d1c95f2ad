use Rattle.std.proofs.Common.{ap, ◌∙◌, ◌++◌, [], ◌∷◌}
use Rattle.jobs_csv.specs.declared.report_rows.ReportRow.TheVariants as row
use Rattle.cube_ledger.specs.declared.ledger.Totals.{Totals}
use Rattle.cli_commands.specs.Inner.ReportRows.{dim_row_in}
use Rattle.cli_commands.proofs.ReportLemmas.{row_more}
use Rattle.cli_commands.proofs.report.push_dims.Goals as goal

pub loop-dim-preserved : goal.loop-dim-preserved
loop-dim-preserved c =
    c.in_ok-push.ensures.items
    ∙ ap (λ (t : Totals). c.loop-dim.rows.items ++ row.Dim c.loop-dim.dim t.jobs t.processors t.idle ∷ []) c.dim-jobs.ensures
    ∙ row_more (dim_row_in c.args.ledger.now) c.args.rows.now.items c.loop-dim.rows.items c.loop-dim.dim c.loop-dim.invariant
