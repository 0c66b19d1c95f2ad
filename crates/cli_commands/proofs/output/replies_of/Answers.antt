use Rattle.cli_commands.proofs.RunLemmas.{are_replies}
use Rattle.cli_commands.proofs.output.replies_of.Goals as goal

pub returns-in-Ok : goal.returns-in-Ok
returns-in-Ok g c n jobs answers = are_replies n jobs c.args.finished c.in-Ok.replies.items answers c.in-Ok.ensures.same c.in-Ok.ensures.sorted
