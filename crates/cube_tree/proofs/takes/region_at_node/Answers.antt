use Rattle.cube_shape.proofs.RegionLemmas.{IsNodeOf-one_region}
use Rattle.cube_core.specs.Held.{region_at}
use Rattle.cube_core.proofs.RunningLemmas.{region_named}
use Rattle.cube_tree.proofs.takes.region_at_node.Goals as goal

pub returns : goal.returns
returns c = IsNodeOf-one_region c.args.dim c.args.node.0 _ (region_at c.args.dim c.args.node.0) c.region_of.ensures.named (region_named c.args.dim c.args.node.0 c.requires.node)
