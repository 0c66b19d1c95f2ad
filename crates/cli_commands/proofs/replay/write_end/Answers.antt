use Rattle.std.proofs.Common.{List, ℕ, ◌++◌, ap, subst, ◌∙◌}
use Rattle.std.proofs.lemmas.Result.{on_ok_weaker}
use Rattle.std.specs.Io.KnownBytes.{Appends}
use Rattle.std.specs.List.{flat_map}
use Rattle.jobs_csv.specs.ReplayRows.{replay_fields}
use Rattle.jobs_csv.specs.Text.{line_of}
use Rattle.jobs_csv.specs.declared.replay_rows.ReplayRow.{ReplayRow}
use Rattle.cli_commands.proofs.replay.write_end.Goals as goal

pub returns : goal.returns
returns g c =
    let text : List ReplayRow → List ℕ = λ (rows : List ReplayRow). c.args.lines ++ flat_map (λ row. line_of (replay_fields row)) rows in
    on_ok_weaker c.finish.result (λ sends. subst
    (Appends (g.W.Write.contents c.args.writer.now) (g.W.Write.contents c.finish.new.writer))
    (c.in_ok-push_rows.ensures ∙ ap text c.in_ok-rows.ensures) sends)
    c.finish.ensures
