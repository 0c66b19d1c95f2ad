use Rattle.std.proofs.Common.{[], rules}
use Rattle.csv.specs.Records.{fields_of}
use Rattle.jobs_csv.proofs.FileLemmas.{bad_header, no_record}
use Rattle.jobs_csv.proofs.format.read_header.Goals as goal

pub returns-then-not-branch-clause-refused : goal.returns-then-not-branch-clause-refused
returns-then-not-branch-clause-refused g c = λ text given.
    no_record g.F.Format.header_of (g.F.Format.row_of c.args.format.now) text (c.in_ok-next_record.ensures.end (search rules) text [] given)

pub returns-in-Err-clause-refused : goal.returns-in-Err-clause-refused
returns-in-Err-clause-refused g c = λ text given.
    bad_header g.F.Format.header_of (g.F.Format.row_of c.args.format.now) g.R.Read.remaining text (fields_of c.next_record.new.row) c.in-Err.what c.next_record.new.reader (c.in_ok-next_record.ensures.more (search rules) text [] given) c.in-Err.ensures
