use Rattle.std.proofs.Common.{sym, subst}
use Rattle.cube_tree.specs.Ends.{IsWhole}
use Rattle.cube_tree.specs.Handles.{cube_size}
use Rattle.floor_tree.proofs.HandleLemmas.{closed_grants}
use Rattle.floor_tree.proofs.floor_tree.TreeFloorFloor.close.Goals as goal

pub returns-clause-granted : goal.returns-clause-granted
returns-clause-granted c = closed_grants c.args.self.cube c.args.stations.items c.requires.of_floor

pub returns-clause-closed : goal.returns-clause-closed
returns-clause-closed c =
    let roll = c.close_all.ensures.roll in
    subst (IsWhole (cube_size c.args.self.cube).stations) (sym roll.word) roll.whole
