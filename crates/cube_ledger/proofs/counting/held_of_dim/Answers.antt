use Rattle.std.proofs.Common.{arith}
use Rattle.cube_ledger.proofs.RegionLemmas.{held_few, level_fits}
use Rattle.cube_ledger.proofs.counting.held_of_dim.Goals as goal

pub held_regions-requires-clause-words : goal.held_regions-requires-clause-words
held_regions-requires-clause-words c = omega (arith, level_fits c.args.n c.args.dim c.requires.dim, c.requires.words)

pub returns-clause-few : goal.returns-clause-few
returns-clause-few c = omega (arith, held_few c.args.n c.args.dim c.held_regions.result c.requires.dim c.held_regions.ensures.few)
