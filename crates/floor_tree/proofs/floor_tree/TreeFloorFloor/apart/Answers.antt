use Rattle.floor_tree.proofs.HandleLemmas.{stays_held}
use Rattle.floor_tree.proofs.floor_tree.TreeFloorFloor.apart.Goals as goal

pub returns-clause-of_floor : goal.returns-clause-of_floor
returns-clause-of_floor c =
    let cube = c.args.self.now.cube in
    (stays_held cube c.args.a c.apart.result.0 c.requires.first c.apart.ensures.first, stays_held cube c.args.b c.apart.result.1 c.requires.second c.apart.ensures.second)
