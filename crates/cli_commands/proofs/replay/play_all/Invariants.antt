use Rattle.std.proofs.Common.{◌≡◌, List, length}
use Rattle.cube_core.specs.Schedule.{initial}
use Rattle.jobs_csv.specs.declared.replay_rows.ReplayRow.{ReplayRow}
use Rattle.jobs_csv.proofs.SentLemmas.{IsSentOrBuffered}
use Rattle.cli_commands.specs.Trace.{IsTrace}
use Rattle.jobs_csv.specs.ReplayRows.{replay_columns, replay_fields}
use Rattle.jobs_csv.specs.Text.{file_text}
use Rattle.cli_commands.specs.Replay.{IsPlayed}
use Rattle.cli_commands.proofs.replay.play_all.Given as goal

-- the lines so far are played, and their rows are written out or buffered
abbrev pub invariant-loop-line : goal.invariant-loop-line
invariant-loop-line g l = record {
  dim : l.world.dim ≡ l.fn.n;
  stations : length l.world.records ≡ l.fn.stations;
  sent : (rows : List ReplayRow) × IsTrace IsPlayed l.yielded (initial l.fn.n l.fn.stations) l.world
      rows × IsSentOrBuffered (g.W.Write.contents l.fn.writer) (g.W.Write.contents l.writer) l.lines
      (file_text replay_columns replay_fields rows);
}
