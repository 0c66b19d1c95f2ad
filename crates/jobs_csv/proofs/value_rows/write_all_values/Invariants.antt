use Rattle.std.proofs.Common.{take}
use Rattle.jobs_csv.specs.ValueRows.{values_text}
use Rattle.jobs_csv.proofs.SentLemmas.{IsSentOrBuffered}
use Rattle.jobs_csv.proofs.value_rows.write_all_values.Given as goal

-- the lines of the replies so far are written out or buffered
abbrev pub invariant-loop-reply : goal.invariant-loop-reply
invariant-loop-reply g l = IsSentOrBuffered (g.W.Write.contents l.fn.writer) (g.W.Write.contents l.writer) l.lines (values_text (take l.reply-index l.replies))
