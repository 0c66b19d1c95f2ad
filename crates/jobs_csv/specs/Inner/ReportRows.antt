-- The fields of the rows of a report, column by column, for the proof of their writing.
use Rattle.std.specs.Prelude.{ℕ, List, codes, Option, Some, None}
use Rattle.jobs_csv.specs.declared.report_rows.ReportRow.{ReportRow}
use Rattle.jobs_csv.specs.declared.report_rows.ReportRow.TheVariants as row

-- The keyword of what the row counts.
abbrev pub group_text : ReportRow → List ℕ
group_text (row.Lane lane jobs processors idle) = codes "lane"
group_text (row.Dim dim jobs processors idle) = codes "dim"
group_text (row.Free dim regions processors) = codes "free"
group_text (row.Total jobs processors idle) = codes "total"

-- The number of the lane or the dimension, if the row has one.
abbrev pub key_in : ReportRow → Option ℕ
key_in (row.Lane lane jobs processors idle) = Some lane
key_in (row.Dim dim jobs processors idle) = Some dim
key_in (row.Free dim regions processors) = Some dim
key_in (row.Total jobs processors idle) = None

-- The number of jobs or of free blocks.
abbrev pub count_in : ReportRow → ℕ
count_in (row.Lane lane jobs processors idle) = jobs
count_in (row.Dim dim jobs processors idle) = jobs
count_in (row.Free dim regions processors) = regions
count_in (row.Total jobs processors idle) = jobs

-- The number of processors.
abbrev pub processors_in : ReportRow → ℕ
processors_in (row.Lane lane jobs processors idle) = processors
processors_in (row.Dim dim jobs processors idle) = processors
processors_in (row.Free dim regions processors) = processors
processors_in (row.Total jobs processors idle) = processors

-- The number of processors that were idle: none of free blocks.
abbrev pub idle_in : ReportRow → ℕ
idle_in (row.Lane lane jobs processors idle) = idle
idle_in (row.Dim dim jobs processors idle) = idle
idle_in (row.Free dim regions processors) = 0
idle_in (row.Total jobs processors idle) = idle
