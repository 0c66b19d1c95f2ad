-- The rows of a report, by the slips of its ledger.
use Rattle.std.specs.Prelude.{ℕ, List}
use Rattle.jobs_csv.specs.declared.report_rows.ReportRow.{ReportRow}
use Rattle.jobs_csv.specs.declared.report_rows.ReportRow.TheVariants as row
use Rattle.cube_ledger.specs.declared.slip.Slip.{Slip}
use Rattle.cube_ledger.specs.Ledger.{totals_of, is_any, is_of_dim, is_of_lane}

-- The row of a lane, by the totals of its slips.
abbrev pub lane_row_in : List Slip → ℕ → ReportRow
lane_row_in slips lane =
    row.Lane lane (totals_of (is_of_lane lane) slips).jobs
    (totals_of (is_of_lane lane) slips).processors (totals_of (is_of_lane lane) slips).idle

-- The row of a dimension, by the totals of its slips.
abbrev pub dim_row_in : List Slip → ℕ → ReportRow
dim_row_in slips dim =
    row.Dim dim (totals_of (is_of_dim dim) slips).jobs (totals_of (is_of_dim dim) slips).processors
    (totals_of (is_of_dim dim) slips).idle

-- The row of all jobs, by the totals of all slips.
abbrev pub total_row_in : List Slip → ReportRow
total_row_in slips =
    row.Total (totals_of is_any slips).jobs (totals_of is_any slips).processors
    (totals_of is_any slips).idle
