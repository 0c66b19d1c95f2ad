use Rattle.std.proofs.Common.{◌≡◌, ◌/◌, ◌-◌, ◌*◌, ◌∙◌, ◌^◌, ap, sym, arith}
use Rattle.cube_shape.specs.declared.region.Region.{Region}
use Rattle.bitmap_tree.specs.Handles.{dim_of}
use Rattle.bitmap_tree.proofs.BlockLemmas.{at_in, round_own, round_up}
use Rattle.bitmap_tree.proofs.LayoutLemmas.{base_in}
use Rattle.bitmap_tree.proofs.SeatLemmas.{stays_then}
use Rattle.bitmap_tree.proofs.handles.BitmapTree.descend.Goals as goal

pub open_under-requires-clause-block : goal.open_under-requires-clause-block
open_under-requires-clause-block c =
    let fits = c.requires.unit.1.fits in
    at_in (dim_of c.args.self.now) (6 * (c.args.unit.dim / 6 - c.loop-down.down)) c.args.block.base c.block_at-next.result c.block_at-next.ensures (omega (arith, fits)) (base_in (dim_of c.args.self.now) c.args.block.dim c.args.block c.requires.block)

pub open_under-requires-clause-inside : goal.open_under-requires-clause-inside
open_under-requires-clause-inside c =
    let dim_is = c.loop-down.invariant.dim in
    let test = c.loop-down-test.true in
    ap (λ (r : Region). r.base / 2 ^ c.loop-down.upper.dim) c.block_at-next.ensures
    ∙ round_up c.args.block.base (6 * (c.args.unit.dim / 6 - c.loop-down.down)) c.loop-down.upper.dim (omega (arith, dim_is, test)) ∙ c.loop-down.invariant.inside

pub loop-down-preserved : goal.loop-down-preserved
loop-down-preserved c =
    let fits = c.requires.unit.1.fits in
    let dim_is = c.loop-down.invariant.dim in
    let test = c.loop-down-test.true in
    let from = c.loop-down.invariant.from in
    let next_dim : c.block_at-next.result.dim ≡ 6 * (c.args.unit.dim / 6 - c.loop-down.down) = ap (λ (r : Region). r.dim) c.block_at-next.ensures in
    let next_base : c.block_at-next.result.base ≡ c.args.block.base / 2 ^ (6 * (c.args.unit.dim / 6 - c.loop-down.down)) * 2 ^ (6 * (c.args.unit.dim / 6 - c.loop-down.down)) = ap (λ (r : Region). r.base) c.block_at-next.ensures in
    record {
      stays = stays_then c.loop-down.invariant.stays c.open_under.ensures.stays;
      held = (c.open_under.ensures.taken, at_in (dim_of c.args.self.now) (6 * (c.args.unit.dim / 6 - c.loop-down.down)) c.args.block.base c.block_at-next.result c.block_at-next.ensures (omega (arith, fits)) (base_in (dim_of c.args.self.now) c.args.block.dim c.args.block c.requires.block));
      dim = omega (arith, next_dim, test);
      inside = ap (λ d. c.args.block.base / 2 ^ d) next_dim ∙ sym (round_own c.args.block.base (6 * (c.args.unit.dim / 6 - c.loop-down.down))) ∙ ap (λ z. z / 2 ^ (6 * (c.args.unit.dim / 6 - c.loop-down.down))) (sym next_base) ∙ ap (λ d. c.block_at-next.result.base / 2 ^ d) (sym next_dim);
      from = omega (arith, from);
      grows = omega (arith, c.loop-down.invariant.grows, c.open_under.ensures.grows, from);
    }
