use Rattle.std.proofs.Common.{ap, ◌∙◌, ◌++◌, [], ◌∷◌}
use Rattle.jobs_csv.specs.declared.report_rows.ReportRow.TheVariants as row
use Rattle.cube_ledger.specs.declared.ledger.Totals.{Totals}
use Rattle.cli_commands.specs.Inner.ReportRows.{lane_row_in}
use Rattle.cli_commands.proofs.ReportLemmas.{row_more}
use Rattle.cli_commands.proofs.report.push_lanes.Goals as goal

pub loop-lane-preserved : goal.loop-lane-preserved
loop-lane-preserved c =
    c.in_ok-push.ensures.items
    ∙ ap (λ (t : Totals). c.loop-lane.rows.items ++ row.Lane c.loop-lane.lane t.jobs t.processors t.idle ∷ []) c.lane-jobs.ensures
    ∙ row_more (lane_row_in c.args.ledger.now) c.args.rows.now.items c.loop-lane.rows.items c.loop-lane.lane c.loop-lane.invariant
