use Rattle.cli_commands.specs.Inner.Names.{AreNamedBelow}
use Rattle.cli_commands.proofs.names.used_in.Given as goal

-- no station from this number on has a name
abbrev pub invariant-loop-used : goal.invariant-loop-used
invariant-loop-used l = AreNamedBelow l.used l.names

abbrev pub decreases-loop-used : goal.decreases-loop-used
decreases-loop-used l = l.used
