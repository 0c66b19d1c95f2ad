use Rattle.std.proofs.Common.{codes, rules}
use Rattle.clap.specs.Words.{found_of}
use Rattle.cli_args.proofs.CommandLineLemmas.{option_value}
use Rattle.cli_args.proofs.command_line.capacity_in.Goals as goal

pub returns-then-capacity-le-MAX_CAPACITY-clause-value : goal.returns-then-capacity-le-MAX_CAPACITY-clause-value
returns-then-capacity-le-MAX_CAPACITY-clause-value c = option_value (found_of c.args.matches.now) (codes "capacity") c.in_ok-capacity.capacity (search rules)
