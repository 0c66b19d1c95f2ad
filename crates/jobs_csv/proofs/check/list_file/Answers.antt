use Rattle.std.proofs.Common.{◌≡◌, ◌∷◌, [], ◌++◌, rules, subst, refl}
use Rattle.std.proofs.lemmas.Result.{IfOk-weaker}
use Rattle.std.specs.Io.KnownBytes.{Appends}
use Rattle.csv.specs.Records.{fields_of}
use Rattle.csv.specs.Writing.{default_writer, row_text}
use Rattle.jobs_csv.specs.Refusals.{refusal_columns, refusal_lines}
use Rattle.jobs_csv.proofs.RefusalLemmas.{all_listed, one_listed}
use Rattle.jobs_csv.proofs.SentLemmas.{all_sent, more_sent, nothing_sent}
use Rattle.jobs_csv.proofs.check.list_file.Goals as goal

pub returns-in-Some : goal.returns-in-Some
returns-in-Some g c =
    let old = g.W.Write.contents c.args.writer.now in
    let now = g.W.Write.contents c.push_row.new.writer in
    let next = g.W.Write.contents c.finish.new.writer in
    let bytes = g.R.Read.remaining c.args.text in
    let header : c.in_ok-lines.lines ≡ row_text default_writer refusal_columns = search rules in
    let (out, writes, all) = c.in_ok-lines-in-Some.ensures in
    let lines = c.in_ok-lines.lines ++ refusal_lines (c.in-Some.row ∷ []) in
    let sent = all_sent old now next c.in_ok-lines-in-Some.lines lines (more_sent old old now lines c.in_ok-lines-in-Some.lines out lines (nothing_sent old lines lines refl) writes all) c.in_ok-finish-in-Some.ensures in
    let refused = rw c.in-Some.is at c.in_ok-row.ensures.refused in
    one_listed g.F.Format.header_of g.F.Checked.bad_column (g.F.Format.row_of c.args.format.now) g.F.Checked.bad_field bytes old next c.in-Some.row
    (refused bytes c.open_reader-reader.ensures.none)
    (subst (λ text. Appends old next (text ++ refusal_lines (c.in-Some.row ∷ []))) header sent)

pub returns : goal.returns
returns g c =
    let old = g.W.Write.contents c.args.writer.now in
    let next = g.W.Write.contents c.list_rows.new.writer in
    let bytes = g.R.Read.remaining c.args.text in
    let fields = fields_of c.header_refusal.new.«record» in
    let header : c.in_ok-lines.lines ≡ row_text default_writer refusal_columns = search rules in
    let good = c.in_ok-row.ensures.good c.in-None.is in
    IfOk-weaker c.list_rows.result _ _ (λ count (rows, counts, writes, is).
    all_listed g.F.Format.header_of g.F.Checked.bad_column (g.F.Format.row_of c.args.format.now) g.F.Checked.bad_field bytes old next fields rows count good.0 counts
    (subst (λ text. Appends old next (text ++ refusal_lines rows)) header writes)
    (is bytes fields (good.1 bytes c.open_reader-reader.ensures.none))) c.list_rows.ensures
