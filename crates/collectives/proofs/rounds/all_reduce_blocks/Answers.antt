use Rattle.std.proofs.Math.Nat.{mul-mod_left}
use Rattle.std.proofs.Common.{◌*◌}
use Rattle.collectives.proofs.rounds.all_reduce_blocks.Goals as goal

pub all_reduce_block-requires-clause-start : goal.all_reduce_block-requires-clause-start
all_reduce_block-requires-clause-start g c = mul-mod_left c.loop-block.block (2 * c.args.half)
