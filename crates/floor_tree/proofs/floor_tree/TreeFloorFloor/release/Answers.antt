use Rattle.floor_tree.proofs.HandleLemmas.{comes_back}
use Rattle.floor_tree.proofs.floor_tree.TreeFloorFloor.release.Goals as goal

pub returns-clause-of_floor : goal.returns-clause-of_floor
returns-clause-of_floor g c = (comes_back c.args.self.now.cube c.args.held c.release.result c.requires c.release.ensures.back).0

pub returns-clause-grants : goal.returns-clause-grants
returns-clause-grants g c = (comes_back c.args.self.now.cube c.args.held c.release.result c.requires c.release.ensures.back).1
