use Rattle.std.proofs.Common.{[], None, ap, ◌∙◌, rules}
use Rattle.csv.specs.Records.{fields_of}
use Rattle.jobs_csv.specs.declared.fault.FaultKind.TheVariants as what
use Rattle.jobs_csv.specs.Refusals.{refused}
use Rattle.jobs_csv.proofs.FileLemmas.{refusal_parsed}
use Rattle.jobs_csv.proofs.RefusalLemmas.{bad_header, no_header}
use Rattle.jobs_csv.proofs.check.header_refusal.Goals as goal

pub returns-then-not-found-clause-refused : goal.returns-then-not-found-clause-refused
returns-then-not-found-clause-refused g c = λ text given.
    no_header g.F.Format.header_of g.F.Checked.bad_column (g.F.Format.row_of c.args.format.now) g.F.Checked.bad_field text c.in_ok-row.row
    (c.in-Ok.ensures.end (search rules) text [] given)
    (c.in_ok-row.ensures ∙ ap (λ fields. refused fields (record { row = 0; what = what.Fields }) None) c.clear.ensures.fields)

pub returns-clause-refused : goal.returns-clause-refused
returns-clause-refused g c = λ text given.
    let header = fields_of c.next_record.new.row in
    bad_header g.F.Format.header_of g.F.Checked.bad_column (g.F.Format.row_of c.args.format.now) g.F.Checked.bad_field g.R.Read.remaining text header c.in-Err.what c.in_ok-row-2.row c.next_record.new.reader
    (c.in-Ok.ensures.more (search rules) text [] given)
    (refusal_parsed (g.F.Format.header_of header) c.in-Err.what (search rules) c.in-Err.ensures)
    (c.in_ok-row-2.ensures ∙ ap (refused header (record { row = 0; what = c.in-Err.what })) c.bad_column.ensures)
