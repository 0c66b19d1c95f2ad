use Rattle.std.proofs.Common.{codes, rules}
use Rattle.clap.specs.Words.{found_of}
use Rattle.cli_args.proofs.CommandLineLemmas.{option_value}
use Rattle.cli_args.proofs.ToolLemmas.{first_text}
use Rattle.cli_args.proofs.messages_line.options_in.Goals as goal

pub returns-clause-options : goal.returns-clause-options
returns-clause-options c =
    let found = found_of c.args.matches.now in (
      (c.in_ok-get_str.field-0.now, first_text found (codes "shape") c.in_ok-get_str.field-0.now (search rules), c.shape_of-shape.ensures),
      option_value found (codes "dim") c.in_ok-dim.dim (search rules),
      option_value found (codes "root") c.in_ok-root.root (search rules),
    )
