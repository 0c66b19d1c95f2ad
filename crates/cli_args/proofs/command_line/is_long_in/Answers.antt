use Rattle.std.proofs.Common.{codes}
use Rattle.clap.specs.Words.{found_of}
use Rattle.cli_args.proofs.CommandLineLemmas.{flag}
use Rattle.cli_args.proofs.command_line.is_long_in.Goals as goal

pub returns : goal.returns
returns c = flag _ (found_of c.args.matches.now) (codes "long") c.get_one.result c.get_one.ensures.none c.get_one.ensures.value
