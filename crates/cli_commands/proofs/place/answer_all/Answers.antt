use Rattle.std.proofs.Common.{◌≡◌, List, ℕ, [], ◌∷◌, ◌++◌, refl, sym, ap, subst, ◌∙◌, append-nil, rules}
use Rattle.std.proofs.lemmas.List.{flat_map_more}
use Rattle.jobs_csv.specs.declared.place_rows.PlaceRow.{PlaceRow}
use Rattle.jobs_csv.specs.PlaceRows.{place_columns, place_fields}
use Rattle.jobs_csv.specs.Text.{file_text, line_of}
use Rattle.jobs_csv.proofs.SentLemmas.{IsSentOrBuffered, more_buffered, more_sent, nothing_sent}
use Rattle.cli_commands.specs.Place.{IsPlaced, NamedHoldings, PlaceStep, empty_table}
use Rattle.cli_commands.specs.Inner.Stations.{named_holdings}
use Rattle.cli_commands.proofs.TraceLemmas.{one_more}
use Rattle.cli_commands.proofs.place.answer_all.Goals as goal

pub loop-command-init : goal.loop-command-init
loop-command-init g c =
    let header : c.in_ok-lines.lines ≡ line_of place_columns = search rules in
    let first : named_holdings c.in_ok-stations.stations ≡ empty_table = λ i s. c.in_ok-stations.ensures.free s i in
    record {
      made = c.in_ok-stations.ensures.made;
      dim = c.in_ok-stations.ensures.dim;
      sent = ([], (first, refl), nothing_sent _ _ _ (header ∙ sym (append-nil (line_of place_columns))));
    }

pub loop-command-preserved : goal.loop-command-preserved
loop-command-preserved g c =
    let old = g.W.Write.contents c.args.writer.now in
    let now = g.W.Write.contents c.loop-command.writer in
    let text : PlaceRow → List ℕ = λ (r : PlaceRow). line_of (place_fields r) in
    let (rows, turns, sent) = c.loop-command.invariant.sent in
    let before : NamedHoldings = named_holdings c.loop-command.stations in
    let behind : NamedHoldings = named_holdings c.answer_next.new.stations in
    let (line, more, (row, is, command, made)) = c.in_ok-answer_next.ensures.line in
    let step : PlaceStep c.args.n row before behind = subst (λ n. PlaceStep n row before behind) c.loop-command.invariant.dim made in
    let placed : IsPlaced c.args.n c.in-Some.command before behind (row ∷ []) = (row, refl, command, step) in
    let (out, sends, same) = c.in_ok-lines-2.ensures in
    let buffered = more_buffered old now c.loop-command.lines c.in_ok-answer_next.field-0 (text row) (file_text place_columns place_fields rows) sent (more ∙ ap (λ l. c.loop-command.lines ++ l) is) in
    record {
      made = c.answer_next.ensures.made;
      dim = c.answer_next.ensures.dim ∙ c.loop-command.invariant.dim;
      sent = (
        rows ++ row ∷ [],
        one_more (IsPlaced c.args.n) c.loop-command.yielded c.in-Some.command empty_table before behind rows (row ∷ []) turns placed,
        subst (IsSentOrBuffered old _ _) (flat_map_more text (line_of place_columns) rows row) (more_sent old now _ _ _ out _ buffered sends same),
      );
    }
