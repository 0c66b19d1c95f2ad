use Rattle.std.proofs.Common.{codes, rules, string_bytes}
use Rattle.clap.specs.Words.{found_of}
use Rattle.cli_args.proofs.CommandLineLemmas.{a_file, dash, no_file}
use Rattle.cli_args.proofs.check_line.file_in.Goals as goal

pub returns-in_default : goal.returns-in_default
returns-in_default c = no_file (found_of c.args.matches.now) (codes "file") (search rules)

pub returns-then-eq : goal.returns-then-eq
returns-then-eq c = dash (found_of c.args.matches.now) (codes "file") c.in-Some.text.now (search rules) (search rules)

pub returns : goal.returns
returns c = a_file (found_of c.args.matches.now) (codes "file") c.in-Some.text.now (string_bytes c.in_ok-name.name) (search rules) (search rules) (search rules)
