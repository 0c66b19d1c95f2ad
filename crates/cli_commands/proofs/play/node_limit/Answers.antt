use Rattle.std.proofs.Common.{◌+◌, arith}
use Rattle.std.proofs.lemmas.Nat.{one_shl}
use Rattle.cli_commands.proofs.play.node_limit.Goals as goal

pub returns : goal.returns
returns c = one_shl (c.args.n + 1) 64 (omega (arith, c.requires))
