use Rattle.std.proofs.Common.{◌≡◌, ◌+◌, ◌∷◌, [], ◌++◌, take, refl, sym, subst, ap, ◌∙◌, rules}
use Rattle.std.proofs.lemmas.List.{flat_map_more, take_more}
use Rattle.jobs_csv.specs.Text.{file_text, line_of}
use Rattle.jobs_csv.proofs.SentLemmas.{IsSentOrBuffered, more_buffered, more_sent}
use Rattle.jobs_csv.proofs.writing.write_all_rows.Goals as goal

pub loop-row-preserved : goal.loop-row-preserved
loop-row-preserved g c =
    let old = g.W.Write.contents c.args.writer.now in
    let now = g.W.Write.contents c.loop-row.writer in
    let next = g.W.Write.contents c.write_row.new.writer in
    let columns = g.R.Row.columns in
    let fields = g.R.Row.fields in
    let rows = take c.loop-row.row-index c.args.rows.now in
    let line = line_of (fields c.row-item.result) in
    let more : take (c.loop-row.row-index + 1) c.args.rows.now ≡ rows ++ c.row-item.result ∷ [] = search (rules, take_more) in
    let (out, writes, all) = c.in_ok-lines-2.ensures in
    let buffered = more_buffered old now c.loop-row.lines (c.loop-row.lines ++ line) line (file_text columns fields rows) c.loop-row.invariant refl in
    let sent = more_sent old now next (c.loop-row.lines ++ line) c.in_ok-lines-2.lines out (file_text columns fields rows ++ line) buffered writes all in
    subst (IsSentOrBuffered old next c.in_ok-lines-2.lines)
    (flat_map_more (λ row. line_of (fields row)) (line_of columns) rows c.row-item.result ∙ ap (file_text columns fields) (sym more)) sent
