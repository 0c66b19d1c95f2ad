use Rattle.std.proofs.Common.{◌≡◌, length}
use Rattle.cli_tools.proofs.MessageLemmas.{AreNumbered}
use Rattle.cli_tools.proofs.listing.message_rows.Given as goal

-- the messages so far have their rows
abbrev pub invariant-loop-number : goal.invariant-loop-number
invariant-loop-number l = record {
  count : length l.rows.items ≡ l.number;
  each : AreNumbered l.fn.shape l.fn.k l.fn.root l.rows.items;
}
