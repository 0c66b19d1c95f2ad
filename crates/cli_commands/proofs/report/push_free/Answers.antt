use Rattle.std.proofs.Common.{ap, ◌∙◌, ◌++◌, [], ◌∷◌}
use Rattle.jobs_csv.specs.declared.report_rows.ReportRow.{ReportRow}
use Rattle.cli_commands.specs.ReportRows.{free_row}
use Rattle.cli_commands.proofs.ReportLemmas.{row_more}
use Rattle.cli_commands.proofs.report.push_free.Goals as goal

pub loop-dim-preserved : goal.loop-dim-preserved
loop-dim-preserved c =
    c.in_ok-push.ensures.items
    ∙ ap (λ (r : ReportRow). c.loop-dim.rows.items ++ r ∷ []) c.free_row.ensures
    ∙ row_more (free_row c.args.n) c.args.rows.now.items c.loop-dim.rows.items c.loop-dim.dim c.loop-dim.invariant
