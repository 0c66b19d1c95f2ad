use Rattle.std.proofs.Common.{◌≡◌, ◌++◌, map}
use Rattle.std.specs.List.{range_with_len}
use Rattle.cli_commands.specs.Inner.ReportRows.{dim_row_in}
use Rattle.cli_commands.proofs.report.push_dims.Given as goal

abbrev pub invariant-loop-dim : goal.invariant-loop-dim
invariant-loop-dim l = l.rows.items ≡ l.fn.rows.items ++ map (dim_row_in l.ledger) (range_with_len 0 l.dim)
