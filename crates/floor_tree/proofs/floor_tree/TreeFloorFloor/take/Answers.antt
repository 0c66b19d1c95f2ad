use Rattle.std.proofs.Common.{◌-◌, ◌∙◌, ◌∷◌, [], ◌++◌, ap}
use Rattle.cube_tree.specs.Handles.{cube_dim}
use Rattle.floor_tree.proofs.HandleLemmas.{takes, stays}
use Rattle.floor_tree.proofs.floor_tree.TreeFloorFloor.take.Goals as goal

pub returns-in-Ok-clause-of_floor : goal.returns-in-Ok-clause-of_floor
returns-in-Ok-clause-of_floor g c = (takes c.args.self.now.cube (cube_dim c.args.self.now.cube - c.args.k) c.loop.station c.in-Ok.subcube c.loop.invariant.0 c.in-Ok.ensures.taken).of_floor

pub returns-in-Ok-clause-granted : goal.returns-in-Ok-clause-granted
returns-in-Ok-clause-granted g c =
    let t = takes c.args.self.now.cube (cube_dim c.args.self.now.cube - c.args.k) c.loop.station c.in-Ok.subcube c.loop.invariant.0 c.in-Ok.ensures.taken in
    t.granted ∙ ap (λ regions. regions ++ c.in-Ok.subcube.region ∷ []) c.loop.invariant.1

pub loop-preserved : goal.loop-preserved
loop-preserved g c =
    let kept = stays c.args.self.now.cube (cube_dim c.args.self.now.cube - c.args.k) c.loop.station c.in-Err.back c.in-Err.field-0-1 c.loop.invariant.0 c.in-Err.ensures.back c.in-Err.ensures.refused in
    (kept.0, kept.1 ∙ c.loop.invariant.1)
