use Rattle.std.proofs.Common.{◌≡◌, ◌++◌, map}
use Rattle.std.specs.List.{range_with_len}
use Rattle.cli_commands.specs.Inner.ReportRows.{lane_row_in}
use Rattle.cli_commands.proofs.report.push_lanes.Given as goal

abbrev pub invariant-loop-lane : goal.invariant-loop-lane
invariant-loop-lane l = l.rows.items ≡ l.fn.rows.items ++ map (lane_row_in l.ledger) (range_with_len 0 l.lane)
