use Rattle.std.proofs.Common.{◌≡◌, List}
use Rattle.jobs_csv.specs.declared.place_rows.PlaceRow.{PlaceRow}
use Rattle.jobs_csv.proofs.SentLemmas.{IsSentOrBuffered}
use Rattle.cli_commands.specs.Trace.{IsTrace}
use Rattle.jobs_csv.specs.PlaceRows.{place_columns, place_fields}
use Rattle.jobs_csv.specs.Text.{file_text}
use Rattle.cli_commands.specs.Place.{IsPlaced, empty_table}
use Rattle.cli_commands.specs.Inner.Stations.{AreStations, dim_of, named_holdings}
use Rattle.cli_commands.proofs.place.answer_all.Given as goal

-- the commands so far are answered, and their rows are written out or buffered
abbrev pub invariant-loop-command : goal.invariant-loop-command
invariant-loop-command g l = record {
  made : AreStations l.stations;
  dim : dim_of l.stations ≡ l.fn.n;
  sent : (rows : List PlaceRow) × IsTrace (IsPlaced l.fn.n) l.yielded empty_table
      (named_holdings l.stations) rows × IsSentOrBuffered (g.W.Write.contents l.fn.writer)
      (g.W.Write.contents l.writer) l.lines (file_text place_columns place_fields rows);
}
