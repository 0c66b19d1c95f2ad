use Rattle.std.proofs.Common.{◌≡◌, ◌++◌, map}
use Rattle.std.specs.List.{range_with_len}
use Rattle.cli_commands.specs.ReportRows.{free_row}
use Rattle.cli_commands.proofs.report.push_free.Given as goal

abbrev pub invariant-loop-dim : goal.invariant-loop-dim
invariant-loop-dim l = l.rows.items ≡ l.fn.rows.items ++ map (free_row l.n) (range_with_len 0 l.dim)
