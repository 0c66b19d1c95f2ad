-- The report of a file of jobs.
use Rattle.std.specs.Prelude.{◌≡◌, ℕ, List}
use Rattle.job_types.specs.Job.{JobData}
use Rattle.jobs_csv.specs.declared.report_rows.ReportRow.{ReportRow}
use Rattle.cli_commands.specs.ReportRows.{rows_of}
use Rattle.cli_commands.specs.JobIds.{with_ids}
use Rattle.cli_commands.specs.OpenLanes.{IsLaneCount}

-- The rows of the report on the jobs of a file: `rows_of` its open lanes and its jobs with their
-- ids.
pub record AreReportRows (n : ℕ) (jobs : List JobData) (rows : List ReportRow) : Type 0 where
  pub lanes : ℕ
  pub open_lanes : IsLaneCount jobs lanes
  pub rows_are : rows ≡ rows_of n lanes (with_ids jobs)
