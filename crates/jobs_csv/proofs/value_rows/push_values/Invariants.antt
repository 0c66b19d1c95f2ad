use Rattle.std.proofs.Common.{◌++◌}
use Rattle.jobs_csv.specs.Inner.ValueRows.{value_lines}
use Rattle.jobs_csv.proofs.SentLemmas.{IsSentOrBuffered}
use Rattle.jobs_csv.proofs.ValueLemmas.{first_values}
use Rattle.jobs_csv.proofs.value_rows.push_values.Given as goal

-- the lines of the places so far are written out or buffered
abbrev pub invariant-loop-place : goal.invariant-loop-place
invariant-loop-place g l = IsSentOrBuffered (g.W.Write.contents l.fn.writer) (g.W.Write.contents l.writer) l.lines (l.fn.lines ++ value_lines (first_values l.reply l.place))
