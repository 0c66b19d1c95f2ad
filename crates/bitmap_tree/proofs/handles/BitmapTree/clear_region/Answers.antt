use Rattle.std.proofs.Common.{◌+◌, ◌*◌, ◌/◌, ◌^◌, ◌<◌, ap, inr, refl, rules, subst, sym, arith}
use Rattle.bitmap_tree.specs.Rule.{word_count}
use Rattle.bitmap_tree.specs.Handles.{dim_of}
use Rattle.bitmap_tree.specs.Layout.{Known}
use Rattle.bitmap_tree.specs.Trail.{WasReleased}
use Rattle.bitmap_tree.proofs.BlockLemmas.{cleared_note, cleared_run, released_right}
use Rattle.bitmap_tree.proofs.LayoutLemmas.{aligned_in, word_there, word_below, base_in, fits_here, loses_region, blank_after}
use Rattle.bitmap_tree.proofs.SweepLemmas.{step_below}
use Rattle.bitmap_tree.proofs.handles.BitmapTree.clear_region.Goals as goal

pub mask_of-mask-requires-clause-within : goal.mask_of-mask-requires-clause-within
mask_of-mask-requires-clause-within c = fits_here _ _ _ c.args.region c.requires.region.1 refl

pub clear_run-found-requires-clause-word : goal.clear_run-found-requires-clause-word
clear_run-found-requires-clause-word c = subst (λ f. f + c.args.region.base / 2 ^ (6 * (c.args.region.dim / 6)) / 64 < word_count (dim_of c.args.self.now)) (sym c.first_word.ensures.value)
    (word_there _ _ _ (word_below (dim_of c.args.self.now) (c.args.region.dim / 6) c.args.region.base (let fits = c.requires.region.1.fits in omega (arith, fits)) (base_in _ _ c.args.region c.requires.region.1)))

pub clear_run-found-requires-clause-loses : goal.clear_run-found-requires-clause-loses
clear_run-found-requires-clause-loses c = loses_region _ _ _ _ _ c.args.region c.args.seat.now.me c.requires.region.1 c.requires.region.0.0 refl c.first_word.ensures.value c.mask_of-mask.ensures

pub returns-clause-blank : goal.returns-clause-blank
returns-clause-blank c = blank_after _ _ c.first_word.result _ _ _ c.args.region c.args.seat.now.me _ c.requires.region.0 refl c.first_word.ensures.value refl c.clear_run-found.ensures.cleared

pub returns-clause-below : goal.returns-clause-below
returns-clause-below c = λ w past. step_below (dim_of c.args.self.now) (c.args.region.dim / 6) c.first_word.result (c.args.region.base / 2 ^ (6 * (c.args.region.dim / 6)) / 64) _ _ _ c.args.seat.now.me _
    (let fits = c.requires.region.1.fits in omega (arith, fits)) c.first_word.ensures.value
    (word_below (dim_of c.args.self.now) (c.args.region.dim / 6) c.args.region.base (let fits = c.requires.region.1.fits in omega (arith, fits)) (base_in _ _ c.args.region c.requires.region.1))
    c.clear_run-found.ensures.cleared w past

pub returns-clause-cleared : goal.returns-clause-cleared
returns-clause-cleared c = cleared_run (dim_of c.args.self.now) c.first_word.result (c.args.region.base / 2 ^ (6 * (c.args.region.dim / 6))) c.mask_of-mask.result c.clear_run-found.result c.args.region c.args.seat.now.me.0.runs c.args.seat.now.me.0.trail c.clear_run-found.new.seat.me.0.trail
    c.requires.region.1 c.requires.region.0.0 c.first_word.ensures.value refl c.mask_of-mask.ensures (search rules) (search rules) c.clear_run-found.ensures.found (ap (λ (m : Known). m.0.trail) c.clear_run-found.ensures.cleared)

pub returns-clause-kept : goal.returns-clause-kept
returns-clause-kept c = λ r before was. subst (WasReleased r before) (sym (ap (λ (m : Known). m.0.trail) c.clear_run-found.ensures.cleared)) (inr was)

pub returns-clause-stays : goal.returns-clause-stays
returns-clause-stays c = record {
  table = c.clear_run-found.ensures.table;
  permits = ap (λ (m : Known). m.0.permits) c.clear_run-found.ensures.cleared;
  right = released_right (dim_of c.args.self.now) c.args.region c.args.seat.now.me c.clear_run-found.new.seat.me _ (aligned_in (dim_of c.args.self.now) c.args.region.dim c.args.region c.requires.region.1) (ap (λ (m : Known). m.0.trail) c.clear_run-found.ensures.cleared)
      (cleared_note (dim_of c.args.self.now) c.first_word.result (c.args.region.base / 2 ^ (6 * (c.args.region.dim / 6))) c.mask_of-mask.result c.clear_run-found.result c.args.region c.args.seat.now.me.0.runs c.args.seat.now.me.0.trail c.clear_run-found.new.seat.me.0.trail c.requires.region.1 c.requires.region.0.0 c.first_word.ensures.value refl c.mask_of-mask.ensures (search rules) (search rules) c.clear_run-found.ensures.found (ap (λ (m : Known). m.0.trail) c.clear_run-found.ensures.cleared));
}
