-- The rows of a report: totals by lane and by dimension, the free blocks, and the totals of all
-- jobs.
use Rattle.std.specs.Prelude.{ℕ, List, [], ◌∷◌, codes}
use Rattle.std.specs.Fmt.{decimal}
use Rattle.jobs_csv.specs.declared.report_rows.ReportRow.{ReportRow}
use Rattle.jobs_csv.specs.declared.report_rows.ReportRow.TheVariants as row

-- The columns of a report.
abbrev pub report_columns : List (List ℕ)
report_columns =
    codes "group" ∷ codes "key" ∷ codes "count" ∷ codes "processors" ∷ codes "idle" ∷ []

-- The fields of a row of a report. No processor of a free block was idle, since no job had it.
abbrev pub report_fields : ReportRow → List (List ℕ)
report_fields (row.Lane lane jobs processors idle) =
    codes "lane" ∷ decimal lane ∷ decimal jobs ∷ decimal processors ∷ decimal idle ∷ []
report_fields (row.Dim dim jobs processors idle) =
    codes "dim" ∷ decimal dim ∷ decimal jobs ∷ decimal processors ∷ decimal idle ∷ []
report_fields (row.Free dim regions processors) =
    codes "free" ∷ decimal dim ∷ decimal regions ∷ decimal processors ∷ decimal 0 ∷ []
report_fields (row.Total jobs processors idle) =
    codes "total" ∷ codes "-" ∷ decimal jobs ∷ decimal processors ∷ decimal idle ∷ []
