use Rattle.std.proofs.Common.{◌/◌, rules, arith}
use Rattle.bitmap_tree.specs.Handles.{dim_of}
use Rattle.bitmap_tree.specs.Layout.{run_of}
use Rattle.bitmap_tree.proofs.SweepLemmas.{release_next}
use Rattle.bitmap_tree.proofs.SeatLemmas.{stays_then}
use Rattle.bitmap_tree.proofs.handles.BitmapTree.release_region.Goals as goal

pub returns-in-None-clause-cleared : goal.returns-in-None-clause-cleared
returns-in-None-clause-cleared c = c.release_once-in-loop-level.ensures.kept (run_of (dim_of c.args.self.now) c.args.region) c.args.seat.now.me.0.trail c.loop-level.invariant.cleared

pub returns-in-None-clause-below : goal.returns-in-None-clause-below
returns-in-None-clause-below c =
    let from = c.loop-level.invariant.from in
    let level = c.loop-level.invariant.level in
    release_next (dim_of c.args.self.now) (c.args.region.dim / 6) (c.loop-level.given.dim / 6) c.args.seat.now.me.0.trail c.loop-level.seat.me.0.trail c.release_once-in-loop-level.new.seat.me.0.trail (omega (arith, from, level)) c.loop-level.invariant.below c.release_once-in-loop-level.ensures.below

pub loop-level-preserved : goal.loop-level-preserved
loop-level-preserved c =
    let from = c.loop-level.invariant.from in
    let level = c.loop-level.invariant.level in
    let taken = c.in-Some-release_once.ensures.taken in
    let dim_is = taken.1.dimension in
    record {
      stays = stays_then c.loop-level.invariant.stays c.release_once-in-loop-level.ensures.stays;
      held = (taken.0, search rules);
      level = omega (arith, dim_is, level);
      from = omega (arith, from);
      cleared = c.release_once-in-loop-level.ensures.kept (run_of (dim_of c.args.self.now) c.args.region) c.args.seat.now.me.0.trail c.loop-level.invariant.cleared;
      below = release_next (dim_of c.args.self.now) (c.args.region.dim / 6) (c.loop-level.given.dim / 6) c.args.seat.now.me.0.trail c.loop-level.seat.me.0.trail c.release_once-in-loop-level.new.seat.me.0.trail (omega (arith, from, level)) c.loop-level.invariant.below c.release_once-in-loop-level.ensures.below;
      grows = omega (arith, c.loop-level.invariant.grows, c.release_once-in-loop-level.ensures.grows, from);
    }
