use Rattle.std.proofs.Common.{◌^◌, ◌/◌, subst, sym}
use Rattle.bitmap_tree.specs.InnerTrail.{HasBit}
use Rattle.bitmap_tree.proofs.MaskLemmas.{finds}
use Rattle.bitmap_tree.proofs.TrailLemmas.{none_next, none_all, all_set, skips}
use Rattle.bitmap_tree.proofs.mask.fit_in.Goals as goal

pub returns-then-word-mask_of-eq0-clause-found : goal.returns-then-word-mask_of-eq0-clause-found
returns-then-word-mask_of-eq0-clause-found c = finds c.args.word c.args.size c.args.k (c.first_room.result / 2 ^ c.args.k) c.mask_of.result c.requires.dim c.requires.size c.if-likely-size.true c.mask_of.ensures c.if-word-mask_of-eq0.true

pub returns-then-word-mask_of-eq0-2-clause-found : goal.returns-then-word-mask_of-eq0-2-clause-found
returns-then-word-mask_of-eq0-2-clause-found c = finds c.args.word c.args.size c.args.k c.loop-i.i c.mask_of-in-loop-i.result c.requires.dim c.requires.size c.loop-i-test.true c.mask_of-in-loop-i.ensures c.if-word-mask_of-eq0-2.true

pub returns-then-word-eq18446744073709551615-clause-none : goal.returns-then-word-eq18446744073709551615-clause-none
returns-then-word-eq18446744073709551615-clause-none c = λ o begins within. subst (λ w. HasBit w o (2 ^ c.args.k)) (sym c.if-word-eq18446744073709551615.true) (all_set c.args.size c.args.k o c.requires.size within)

pub loop-i-init : goal.loop-i-init
loop-i-init c = skips c.args.word c.args.k c.trailing_ones.result c.ranges.word.fits c.if-word-eq18446744073709551615.false c.trailing_ones.ensures

pub loop-i-preserved : goal.loop-i-preserved
loop-i-preserved c = none_next c.args.word c.args.size c.args.k c.loop-i.i c.mask_of-in-loop-i.result c.requires.dim c.requires.size c.loop-i-test.true c.mask_of-in-loop-i.ensures c.if-word-mask_of-eq0-2.false c.loop-i.invariant

pub returns-clause-none : goal.returns-clause-none
returns-clause-none c = none_all c.args.word c.args.size c.args.k c.loop-i.i c.loop-i-test.false c.loop-i.invariant
