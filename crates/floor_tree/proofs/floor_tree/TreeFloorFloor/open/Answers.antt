use Rattle.std.proofs.Common.{ap}
use Rattle.tree_steps.specs.declared.view.Size.{Size}
use Rattle.floor_tree.proofs.HandleLemmas.{opened_stations, opened_grants}
use Rattle.floor_tree.proofs.floor_tree.TreeFloorFloor.open.Goals as goal

pub returns-in-Ok-clause-of_floor : goal.returns-in-Ok-clause-of_floor
returns-in-Ok-clause-of_floor c = opened_stations c.in-Ok.cube c.args.stations c.in-Ok.list.items (ap (λ (size : Size). size.stations) c.in-Ok.ensures.size) c.in-Ok.ensures.of_cube c.in-Ok.ensures.idle

pub returns-in-Ok-clause-fresh : goal.returns-in-Ok-clause-fresh
returns-in-Ok-clause-fresh c = opened_grants c.args.stations c.in-Ok.list.items c.in-Ok.ensures.idle
