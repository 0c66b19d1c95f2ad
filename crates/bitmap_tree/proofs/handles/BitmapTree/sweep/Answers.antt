use Rattle.std.proofs.Common.{◌≤◌, ◌<◌, ◌/◌, ◌-◌, ◌+◌, ◌*◌, ◌^◌, ℕ, subst, arith}
use Rattle.bitmap_tree.specs.Rule.{first_word}
use Rattle.bitmap_tree.specs.InnerTrail.{HasBit, left_by}
use Rattle.bitmap_tree.specs.Handles.{dim_of}
use Rattle.bitmap_tree.proofs.FreeLemmas.{words_under}
use Rattle.bitmap_tree.proofs.SweepLemmas.{sweep_grows, swept_next}
use Rattle.bitmap_tree.proofs.SeatLemmas.{stays_then}
use Rattle.bitmap_tree.proofs.handles.BitmapTree.sweep.Goals as goal

pub sweep_level-requires-clause-words : goal.sweep_level-requires-clause-words
sweep_level-requires-clause-words c =
    let test = c.loop-level-test.true in
    let limit = c.requires.limit in
    let all = words_under (dim_of c.args.self.now) c.loop-level.level c.args.block c.requires.block (omega (arith, test, limit)) in
    let count = c.words_in-count.ensures.value in
    omega (arith, all, count)

pub loop-level-preserved : goal.loop-level-preserved
loop-level-preserved c =
    let test = c.loop-level-test.true in
    let limit = c.requires.limit in
    let fits = c.requires.block.fits in
    let count = c.words_in-count.ensures.value in
    record {
      stays = stays_then c.loop-level.invariant.stays c.sweep_level.ensures.stays;
      blank = c.sweep_level.ensures.blank;
      used = swept_next (dim_of c.args.self.now) c.args.limit c.loop-level.level (λ s. c.args.block.base / 2 ^ (6 * s + 6)) (λ s. 2 ^ (c.args.block.dim - 6 * s - 6)) c.loop-level.seat.me.0.trail c.sweep_level.new.seat.me.0.trail (omega (arith, test, limit, fits)) c.loop-level.invariant.used
          (subst (λ x. (w : ℕ) → c.args.block.base / 2 ^ (6 * c.loop-level.level + 6) ≤ w → w < c.args.block.base / 2 ^ (6 * c.loop-level.level + 6) + x → HasBit (left_by c.sweep_level.new.seat.me.0.trail (first_word (dim_of c.args.self.now / 6 - c.loop-level.level) + w)) 0 64) count c.sweep_level.ensures.used)
          c.sweep_level.ensures.below;
      grows = sweep_grows (dim_of c.args.self.now) c.args.block.dim c.loop-level.level c.words_in-count.result c.args.seat.now.me c.loop-level.seat.me c.sweep_level.new.seat.me fits count c.loop-level.invariant.grows c.sweep_level.ensures.grows;
    }
