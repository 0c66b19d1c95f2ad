use Rattle.std.proofs.Common.{◌≡◌, List, ℕ, [], ◌++◌, length, refl, sym, ap, subst, ◌∙◌, append-nil, rules}
use Rattle.std.proofs.lemmas.Iterator.Adapters.{YieldsList-from_vec}
use Rattle.std.proofs.lemmas.Iterator.Consumers.{YieldsList-end}
use Rattle.std.proofs.lemmas.List.{length-replicate, map-id}
use Rattle.std.proofs.lemmas.Result.{on_ok_weaker}
use Rattle.std.specs.Io.KnownBytes.{Appends}
use Rattle.std.specs.List.{flat_map}
use Rattle.cube_core.specs.Schedule.{Record, State, initial}
use Rattle.jobs_csv.specs.declared.replay_rows.ReplayRow.{ReplayRow}
use Rattle.jobs_csv.specs.ReplayRows.{replay_columns, replay_fields}
use Rattle.jobs_csv.specs.Text.{file_text, line_of}
use Rattle.jobs_csv.proofs.SentLemmas.{IsSentOrBuffered, all_sent, more_buffered, more_sent, nothing_sent}
use Rattle.cli_commands.specs.Trace.{IsTrace}
use Rattle.cli_commands.specs.Replay.{IsPlayed, final_rows}
use Rattle.cli_commands.proofs.TraceLemmas.{more_lines, one_more}
use Rattle.cli_commands.proofs.replay.play_all.Goals as goal

pub loop-line-init : goal.loop-line-init
loop-line-init g c =
    let header : c.in_ok-lines.lines ≡ line_of replay_columns = search rules in
    record {
      dim = ap (λ (w : State). w.dim) c.in_ok-world.ensures.opened;
      stations = ap (λ (w : State). length w.records) c.in_ok-world.ensures.opened ∙ length-replicate {A = Record} c.args.stations _;
      sent = ([], (c.in_ok-world.ensures.opened, refl), nothing_sent _ _ _ (header ∙ sym (append-nil (line_of replay_columns))));
    }

pub loop-line-preserved : goal.loop-line-preserved
loop-line-preserved g c =
    let old = g.W.Write.contents c.args.writer.now in
    let now = g.W.Write.contents c.loop-line.writer in
    let text : ReplayRow → List ℕ = λ (r : ReplayRow). line_of (replay_fields r) in
    let (rows, turns, sent) = c.loop-line.invariant.sent in
    let more : List ReplayRow = c.in_ok-rows.rows.items in
    let (out, sends, same) = c.in_ok-lines-2.ensures in
    let buffered = more_buffered old now c.loop-line.lines c.in_ok-push_rows.field-0 (flat_map text more) (file_text replay_columns replay_fields rows) sent c.in_ok-push_rows.ensures in
    record {
      dim = c.play.ensures.shape.dim ∙ c.loop-line.invariant.dim;
      stations = c.play.ensures.shape.stations ∙ c.loop-line.invariant.stations;
      sent = (
        rows ++ more,
        one_more IsPlayed c.loop-line.yielded c.in-Some.line (initial c.args.n c.args.stations) c.loop-line.world c.play.new.world rows more turns c.in_ok-rows.ensures.played,
        subst (IsSentOrBuffered old _ _) (more_lines (line_of replay_columns) text rows more) (more_sent old now _ _ _ out _ buffered sends same),
      );
    }

pub returns : goal.returns
returns g c =
    let old = g.W.Write.contents c.args.writer.now in
    let now = g.W.Write.contents c.loop-line.writer in
    let next = g.W.Write.contents c.write_end.new.writer in
    let text : ReplayRow → List ℕ = λ (r : ReplayRow). line_of (replay_fields r) in
    let last = YieldsList-end (YieldsList-from_vec {s = c.into_iter-line-iterator.result} c.args.schedule.items (search rules) (search rules)) c.loop-line.yielded c.loop-line.line-iterator c.loop-line.yielded_by c.next.result c.next.new.self c.in-None.is c.next.ensures.steps in
    let all : c.loop-line.yielded ≡ c.args.schedule.items = sym (map-id c.loop-line.yielded) ∙ last.0 in
    let (rows, turns, sent) = c.loop-line.invariant.sent in
    let ended : List ReplayRow = final_rows c.loop-line.world in
    let buffered = more_buffered old now c.loop-line.lines _ (flat_map text ended) (file_text replay_columns replay_fields rows) sent refl in
    on_ok_weaker c.write_end.result (λ sends. (
      rows ++ ended,
      (c.loop-line.world, rows, subst (λ lines. IsTrace IsPlayed lines (initial c.args.n c.args.stations) c.loop-line.world rows) all turns, refl),
      subst (Appends old next) (more_lines (line_of replay_columns) text rows ended) (all_sent old now next _ _ buffered sends),
    )) c.write_end.ensures
