use Rattle.std.proofs.Common.{◌/◌, ◌-◌, ◌*◌, ◌^◌, ◌<◌, ◌∙◌, arith}
use Rattle.bitmap_tree.specs.Handles.{dim_of}
use Rattle.bitmap_tree.specs.Layout.{run_of}
use Rattle.bitmap_tree.proofs.SweepLemmas.{steps_below}
use Rattle.bitmap_tree.proofs.handles.BitmapTree.release_once.Goals as goal

pub returns-clause-below : goal.returns-clause-below
returns-clause-below c = λ w past.
    let fits = c.requires.region.1.fits in
    let value = c.words_in.ensures.value in
    let less = c.if-other-words_in.false in
    let there : c.in-Some.other < 2 ^ (dim_of c.args.self.now - 6 * (c.args.region.dim / 6) - 6) = omega (arith, value, less) in
    steps_below (dim_of c.args.self.now) (c.args.region.dim / 6) c.in-Some.other c.clear_region-empty.new.seat.me c.shut_unit.new.seat.me (omega (arith, fits)) there c.shut_unit.ensures.steps w past ∙ c.clear_region-empty.ensures.below w past

pub returns-clause-cleared : goal.returns-clause-cleared
returns-clause-cleared c = c.shut_unit.ensures.steps.released (run_of (dim_of c.args.self.now) c.args.region) c.args.seat.now.me.0.trail c.clear_region-empty.ensures.cleared

pub returns-clause-kept : goal.returns-clause-kept
returns-clause-kept c = λ r before was. c.shut_unit.ensures.steps.released r before (c.clear_region-empty.ensures.kept r before was)
