use Rattle.std.proofs.Common.{codes, rules}
use Rattle.clap.specs.Words.{found_of}
use Rattle.cli_args.proofs.CommandLineLemmas.{option_value}
use Rattle.cli_args.proofs.check_line.dim_in.Goals as goal

pub returns-then-fits-clause-value : goal.returns-then-fits-clause-value
returns-then-fits-clause-value c = option_value (found_of c.args.matches.now) (codes "dim") c.in_ok-n.n (search rules)
