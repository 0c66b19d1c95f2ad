use Rattle.std.proofs.Common.{◌∷◌, [], ℕ, List, Option}
use Rattle.jobs_csv.specs.Files.{Record}
use Rattle.jobs_csv.specs.Inner.Input.{HasGiven, IsPlain}
use Rattle.jobs_csv.proofs.RefusalLemmas.{HasListed}
use Rattle.jobs_csv.proofs.first_refusal.find_row.Given as goal

-- no record so far is refused
abbrev pub invariant-loop-number : goal.invariant-loop-number
invariant-loop-number g l = record {
  plain : IsPlain l.reader;
  good : (text : Option (List ℕ)) (header : Record)
      → HasGiven g.R.Read.remaining text (header ∷ []) l.fn.reader
      → HasListed (g.F.Format.row_of l.format) g.F.Checked.bad_field g.R.Read.remaining text header
      l.number [] l.reader;
}
