use Rattle.std.proofs.Common.{take}
use Rattle.jobs_csv.specs.Text.{file_text}
use Rattle.jobs_csv.proofs.SentLemmas.{IsSentOrBuffered}
use Rattle.jobs_csv.proofs.writing.write_all_rows.Given as goal

-- the lines of the rows so far are written out or buffered
abbrev pub invariant-loop-row : goal.invariant-loop-row
invariant-loop-row g l = IsSentOrBuffered (g.W.Write.contents l.fn.writer) (g.W.Write.contents l.writer) l.lines (file_text g.R.Row.columns g.R.Row.fields (take l.row-index l.rows))
