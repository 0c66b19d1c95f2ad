use Rattle.std.proofs.Common.{ap, sym, ◌∙◌, if◌then◌else◌, Ok, Err}
use Rattle.csv.specs.Records.{fields_of}
use Rattle.jobs_csv.specs.declared.fault.FaultKind.TheVariants as what
use Rattle.jobs_csv.specs.Columns.{header_of}
use Rattle.jobs_csv.proofs.ColumnLemmas.{no_header}
use Rattle.jobs_csv.proofs.columns.three_header.Goals as goal

pub returns-in-None : goal.returns-in-None
returns-in-None c = no_header _ (fields_of c.args.row.now) c.in-None.ensures.none

pub returns-then-are_texts : goal.returns-then-are_texts
unfolding header_of
returns-then-are_texts c =
    rw c.in-Some.ensures.some (ap (λ good. if good then Ok tt else Err what.Word) (sym c.are_texts.ensures ∙ c.if-are_texts.true))

pub returns-else-are_texts : goal.returns-else-are_texts
unfolding header_of
returns-else-are_texts c =
    rw c.in-Some.ensures.some (ap (λ good. if good then Ok tt else Err what.Word) (sym c.are_texts.ensures ∙ c.if-are_texts.false))
