use Rattle.std.proofs.Common.{◌∙◌, ap, sym, subst}
use Rattle.cube_shape.specs.declared.region.Region.{Region}
use Rattle.cube_shape.specs.Region.{IsAligned}
use Rattle.cube_tree.specs.Handles.{cube_dim}
use Rattle.uses.proofs.subcubes.hold_two.Goals as goal

-- The blocks that are returned are those that `apart` gave back.
pub returns-clause-apart : goal.returns-clause-apart
returns-clause-apart c = rw (c.region.ensures, c.region-2.ensures) c.apart-subcube.ensures.apart

-- They are the blocks that were taken.
pub returns-clause-aligned : goal.returns-clause-aligned
returns-clause-aligned c = (
  subst (IsAligned (cube_dim c.args.cube.now)) (sym (c.region.ensures ∙ c.apart-subcube.ensures.first.region_is)) c.in-Ok.ensures.aligned,
  subst (IsAligned (cube_dim c.args.cube.now)) (sym (c.region-2.ensures ∙ c.apart-subcube.ensures.second.region_is)) c.in-Ok-search.ensures.aligned,
)

pub returns-clause-dimensions : goal.returns-clause-dimensions
returns-clause-dimensions c = (
  ap (λ (r : Region). r.dim) (c.region.ensures ∙ c.apart-subcube.ensures.first.region_is) ∙ c.in-Ok.ensures.dimension,
  ap (λ (r : Region). r.dim) (c.region-2.ensures ∙ c.apart-subcube.ensures.second.region_is) ∙ c.in-Ok-search.ensures.dimension,
)
