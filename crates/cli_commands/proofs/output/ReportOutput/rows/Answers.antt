use Rattle.std.proofs.lemmas.Result.{IfOk-weaker}
use Rattle.cli_commands.specs.JobIds.{with_ids}
use Rattle.cli_commands.proofs.output.ReportOutput.rows.Goals as goal

pub returns : goal.returns
returns g c = IfOk-weaker c.report_rows.result _ _ (λ rows same jobs answers. record {
  lanes = _;
  open_lanes = answers.open_lanes;
  rows_are = same (with_ids jobs) answers.same answers.right;
}) c.report_rows.ensures
