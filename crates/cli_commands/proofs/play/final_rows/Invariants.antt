use Rattle.std.proofs.Common.{◌≡◌, ◌≤◌}
use Rattle.cli_commands.proofs.ReplayLemmas.{rows_before}
use Rattle.cli_commands.proofs.play.final_rows.Given as goal

abbrev pub invariant-loop-node : goal.invariant-loop-node
invariant-loop-node l = record {
  from : 1 ≤ l.node;
  same : l.rows.items ≡ rows_before l.world l.node;
}
