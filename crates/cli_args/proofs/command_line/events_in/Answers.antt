use Rattle.std.proofs.Common.{codes, rules, string_bytes}
use Rattle.clap.specs.Words.{found_of}
use Rattle.cli_args.proofs.CommandLineLemmas.{given_name, not_given}
use Rattle.cli_args.proofs.command_line.events_in.Goals as goal

pub returns-in_default : goal.returns-in_default
returns-in_default c = not_given (found_of c.args.matches.now) (codes "events") (search rules)

pub returns : goal.returns
returns c = given_name (found_of c.args.matches.now) (codes "events") c.in-Some.text.now (string_bytes c.in_ok-name.name) (search rules) (search rules)
