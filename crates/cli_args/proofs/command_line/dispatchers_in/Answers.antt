use Rattle.std.proofs.Common.{codes, rules}
use Rattle.clap.specs.Words.{found_of}
use Rattle.cli_args.proofs.CommandLineLemmas.{option_value}
use Rattle.cli_args.proofs.command_line.dispatchers_in.Goals as goal

pub returns-then-dispatchers-le-MAX_DISPATCHERS-clause-value : goal.returns-then-dispatchers-le-MAX_DISPATCHERS-clause-value
returns-then-dispatchers-le-MAX_DISPATCHERS-clause-value c = option_value (found_of c.args.matches.now) (codes "dispatchers") c.in_ok-dispatchers.dispatchers (search rules)
