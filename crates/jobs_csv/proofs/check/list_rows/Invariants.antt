use Rattle.std.proofs.Common.{◌≡◌, ◌≤◌, ◌+◌, ◌∷◌, [], ◌++◌, ℕ, List, Option, length}
use Rattle.jobs_csv.specs.declared.refusal_rows.RefusalRow.{RefusalRow}
use Rattle.jobs_csv.specs.Files.{Record}
use Rattle.jobs_csv.specs.Inner.Input.{HasGiven, IsPlain}
use Rattle.jobs_csv.specs.Refusals.{refusal_lines}
use Rattle.jobs_csv.proofs.RefusalLemmas.{HasListed}
use Rattle.jobs_csv.proofs.SentLemmas.{IsSentOrBuffered}
use Rattle.jobs_csv.proofs.check.list_rows.Given as goal

-- the refusals of the records so far are counted, and written out or buffered
abbrev pub invariant-loop-number : goal.invariant-loop-number
invariant-loop-number g l = record {
  plain : IsPlain l.reader;
  bound : l.count + 1 ≤ l.number;
  listed : (rows : List RefusalRow) × (length rows ≡ l.count)
      × IsSentOrBuffered (g.W.Write.contents l.fn.writer) (g.W.Write.contents l.writer) l.lines
      (l.fn.lines ++ refusal_lines rows)
      × ((text : Option (List ℕ)) (header : Record)
      → HasGiven g.R.Read.remaining text (header ∷ []) l.fn.reader
      → HasListed (g.F.Format.row_of l.format) g.F.Checked.bad_field g.R.Read.remaining text header
      l.number rows l.reader);
}
