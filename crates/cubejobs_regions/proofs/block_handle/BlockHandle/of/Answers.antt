-- The seat that is hidden is the one that came.
use Rattle.std.proofs.Common.{◌∙◌, refl}
use Rattle.cubejobs_regions.proofs.HoldLemmas.{holds_it}
use Rattle.cubejobs_regions.proofs.block_handle.BlockHandle.of.Goals as goal

pub returns : goal.returns
returns c =
    let held = c.args.held in let put = c.of.ensures in
    holds_it c.tag_of.result c.args.machine c.of.result c.args.machine held c.tag_of.ensures.held refl (c.tag_of.ensures.dim ∙ c.into_parts-dim.ensures.dim)
    (c.tag_of.ensures.region ∙ c.into_parts-dim.ensures.region) (put.seat ∙ c.into_parts-dim.ensures.seat)
