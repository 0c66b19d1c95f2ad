use Rattle.std.proofs.Common.{codes, rules}
use Rattle.clap.specs.Words.{found_of}
use Rattle.cli_args.proofs.CommandLineLemmas.{option_value}
use Rattle.cli_args.proofs.command_line.stations_in.Goals as goal

pub returns-then-stations-le-MAX_STATIONS-clause-value : goal.returns-then-stations-le-MAX_STATIONS-clause-value
returns-then-stations-le-MAX_STATIONS-clause-value c = option_value (found_of c.args.matches.now) (codes "stations") c.in_ok-stations.stations (search rules)
