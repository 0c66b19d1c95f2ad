use Rattle.std.proofs.Common.{rules}
use Rattle.std.proofs.lemmas.Result.{IfOk-weaker}
use Rattle.std.proofs.Common.{option_map}
use Rattle.csv.specs.Records.{fields_of}
use Rattle.jobs_csv.specs.Refusals.{refusal_in}
use Rattle.jobs_csv.proofs.RefusalLemmas.{first_found, header_found}
use Rattle.jobs_csv.proofs.first_refusal.find_in.Goals as goal

pub returns-in-Some : goal.returns-in-Some
returns-in-Some g c =
    let bytes = g.R.Read.remaining c.args.text in
    let refused = rw c.in-Some.is at c.in_ok-refusal.ensures.refused in
    header_found g.F.Format.header_of g.F.Checked.bad_column (g.F.Format.row_of c.args.format.now) g.F.Checked.bad_field bytes c.in-Some.row
    (refused bytes c.open_reader-reader.ensures.none)

pub returns : goal.returns
returns g c =
    let bytes = g.R.Read.remaining c.args.text in
    let fields = fields_of c.header_refusal.new.«record» in
    let good = c.in_ok-refusal.ensures.good (search rules) in
    IfOk-weaker c.find_row.result _ _ (λ found is.
    first_found g.F.Format.header_of g.F.Checked.bad_column (g.F.Format.row_of c.args.format.now) g.F.Checked.bad_field bytes fields (option_map refusal_in found) good.0
    (is bytes fields (good.1 bytes c.open_reader-reader.ensures.none))) c.find_row.ensures
