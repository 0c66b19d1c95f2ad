use Rattle.std.proofs.Common.{◌≡◌, ◌∷◌, [], ℕ, List, Option, Ok, All}
use Rattle.jobs_csv.specs.Files.{Record}
use Rattle.jobs_csv.specs.Inner.Input.{HasGiven, IsPlain}
use Rattle.jobs_csv.proofs.FileLemmas.{HasRead}
use Rattle.jobs_csv.proofs.format.read_rows.Given as goal

-- the rows of the records so far are pushed
abbrev pub invariant-loop-number : goal.invariant-loop-number
invariant-loop-number g l = record {
  plain : IsPlain l.reader;
  read : (rows : List g.row.F-Row.Denot) × g.G.RowSink.contents l.rows rows
      × All (λ row. g.F.Format.is_row l.format row) rows
      × ((text : Option (List ℕ)) (header : Record)
      → HasGiven g.R.Read.remaining text (header ∷ []) l.fn.reader → g.F.Format.header_of header
      ≡ Ok tt → HasRead g.F.Format.header_of (g.F.Format.row_of l.format) g.R.Read.remaining text
      l.number rows l.reader);
}
