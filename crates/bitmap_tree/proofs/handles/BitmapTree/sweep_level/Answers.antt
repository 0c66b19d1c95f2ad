use Rattle.std.proofs.Common.{◌/◌, ◌-◌, arith}
use Rattle.bitmap_tree.specs.Rule.{first_word}
use Rattle.bitmap_tree.specs.Handles.{dim_of}
use Rattle.bitmap_tree.proofs.SweepLemmas.{below_next, used_next}
use Rattle.bitmap_tree.proofs.SeatLemmas.{stays_then}
use Rattle.bitmap_tree.proofs.handles.BitmapTree.sweep_level.Goals as goal

pub loop-number-preserved : goal.loop-number-preserved
loop-number-preserved c =
    let from = c.loop-number.invariant.from in
    let test = c.loop-number-test.true in
    let low = c.requires.level in
    record {
      stays = stays_then c.loop-number.invariant.stays c.shut_empty.ensures.stays;
      blank = c.shut_empty.ensures.blank;
      from = omega (arith, from);
      used = used_next (first_word (dim_of c.args.self.now / 6 - c.args.level)) c.args.first c.loop-number.number c.loop-number.seat.me.0.trail c.shut_empty.new.seat.me.0.trail c.loop-number.invariant.used c.shut_empty.ensures.used c.shut_empty.ensures.below;
      below = below_next (dim_of c.args.self.now) c.args.level c.loop-number.number c.args.seat.now.me.0.trail c.loop-number.seat.me.0.trail c.shut_empty.new.seat.me.0.trail (omega (arith, low)) (omega (arith, test, c.requires.words)) c.loop-number.invariant.below c.shut_empty.ensures.below;
      grows = omega (arith, c.loop-number.invariant.grows, c.shut_empty.ensures.grows, from);
    }
