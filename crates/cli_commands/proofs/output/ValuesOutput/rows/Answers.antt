use Rattle.std.proofs.lemmas.Result.{IfOk-weaker}
use Rattle.cli_commands.proofs.output.ValuesOutput.rows.Goals as goal

pub returns : goal.returns
returns g c = IfOk-weaker c.replies_of.result _ _ (λ replies is jobs answers. is c.args._n jobs answers) c.replies_of.ensures
