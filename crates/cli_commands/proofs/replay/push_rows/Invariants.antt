use Rattle.std.proofs.Common.{◌≡◌, ◌++◌}
use Rattle.std.specs.List.{flat_map}
use Rattle.jobs_csv.specs.ReplayRows.{replay_fields}
use Rattle.jobs_csv.specs.Text.{line_of}
use Rattle.cli_commands.proofs.replay.push_rows.Given as goal

abbrev pub invariant-loop-row : goal.invariant-loop-row
invariant-loop-row l = l.lines ≡ l.fn.lines ++ flat_map (λ row. line_of (replay_fields row)) l.yielded
