use Rattle.std.proofs.Common.{◌≡◌, ◌/◌, ◌+◌, ◌-◌, ◌∙◌, ◌^◌, ap, subst, arith}
use Rattle.cube_shape.specs.declared.region.Region.{Region}
use Rattle.cube_shape.specs.Region.{block}
use Rattle.bitmap_tree.specs.declared.no_block.NoBlock.TheVariants.{Full}
use Rattle.bitmap_tree.specs.Rule.{first_word}
use Rattle.bitmap_tree.specs.Layout.{run_of, unit_around}
use Rattle.bitmap_tree.specs.InnerTrail.{IsSetIn, left_by}
use Rattle.bitmap_tree.specs.Trail.{WasTaken}
use Rattle.bitmap_tree.specs.Handles.{dim_of}
use Rattle.bitmap_tree.proofs.AloneLemmas.{steps_then}
use Rattle.bitmap_tree.proofs.BlockLemmas.{at_in, path_steps, path_word, set_next, seen_next}
use Rattle.bitmap_tree.proofs.LayoutLemmas.{base_in}
use Rattle.bitmap_tree.proofs.SweepLemmas.{disturbed_next}
use Rattle.bitmap_tree.proofs.SeatLemmas.{stays_then}
use Rattle.bitmap_tree.proofs.handles.BitmapTree.take_path.Goals as goal

pub take_block-requires-clause-block : goal.take_block-requires-clause-block
take_block-requires-clause-block c =
    let fits = c.requires.block.fits in
    let test = c.loop-level-test.true in
    at_in (dim_of c.args.self.now) c.max.result c.args.block.base c.block_at-unit.result c.block_at-unit.ensures (omega (arith, c.max.ensures, fits, test)) (base_in (dim_of c.args.self.now) c.args.block.dim c.args.block c.requires.block)

pub loop-level-preserved : goal.loop-level-preserved
loop-level-preserved c =
    let fits = c.requires.block.fits in
    let test = c.loop-level-test.true in
    let from = c.loop-level.invariant.from in
    let inside = at_in (dim_of c.args.self.now) c.max.result c.args.block.base c.block_at-unit.result c.block_at-unit.ensures (omega (arith, c.max.ensures, fits, test)) (base_in (dim_of c.args.self.now) c.args.block.dim c.args.block c.requires.block) in
    let unit_is : c.block_at-unit.result ≡ unit_around c.loop-level.level c.args.block = c.block_at-unit.ensures ∙ ap (λ d. block d (c.args.block.base / 2 ^ d)) c.max.ensures in
    let there = path_word (dim_of c.args.self.now) c.loop-level.level c.args.block c.block_at-unit.result unit_is inside from (omega (arith, test)) in
    let steps = c.take_block.ensures.steps in
    record {
      stays = stays_then c.loop-level.invariant.stays c.take_block.ensures.stays;
      blank = c.in-Err.ensures.blank;
      from = omega (arith, from);
      seen = seen_next (dim_of c.args.self.now) c.loop-level.level c.args.block c.loop-level.why c.in-Err.more c.and-why.result c.loop-level.seat.me c.take_block.new.seat.me _ steps c.and-why.ensures.full c.loop-level.invariant.seen
          (subst (λ (r : Region). c.in-Err.more ≡ Full → WasTaken (dim_of c.args.self.now) c.take_block.new.seat.me.0.trail r) unit_is c.in-Err.ensures.refused);
      set = set_next (dim_of c.args.self.now) c.loop-level.level _ c.args.block c.loop-level.why c.in-Err.more c.and-why.result c.loop-level.seat.me c.take_block.new.seat.me (omega (arith, test)) there steps c.and-why.ensures.full c.loop-level.invariant.set
          (subst (λ (r : Region). c.in-Err.more ≡ Full → IsSetIn (left_by c.take_block.new.seat.me.0.trail) (run_of (dim_of c.args.self.now) r)) unit_is c.in-Err.ensures.set);
      disturbed = disturbed_next c.loop-level.why c.in-Err.more c.and-why.result c.loop-level.seat.me c.take_block.new.seat.me steps.past c.and-why.ensures.disturbed c.loop-level.invariant.disturbed c.in-Err.ensures.disturbed;
      kept = steps_then 0 (first_word (dim_of c.args.self.now / 6 + 1 - c.args.block.dim / 6)) c.args.seat.now.me c.loop-level.seat.me c.take_block.new.seat.me c.loop-level.invariant.kept
          (path_steps (dim_of c.args.self.now) (c.args.block.dim / 6) c.loop-level.level _ c.loop-level.seat.me c.take_block.new.seat.me from there steps);
      grows = omega (arith, c.loop-level.invariant.grows, c.take_block.ensures.grows, from);
    }
