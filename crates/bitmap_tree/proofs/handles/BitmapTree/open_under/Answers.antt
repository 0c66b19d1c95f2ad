use Rattle.std.proofs.Common.{◌%◌, ◌/◌, ◌*◌, ◌^◌, ap, refl, arith}
use Rattle.std.proofs.lemmas.Nat.{one_shl}
use Rattle.bitmap_tree.specs.Handles.{dim_of}
use Rattle.bitmap_tree.specs.Layout.{Known}
use Rattle.bitmap_tree.proofs.AloneLemmas.{claim_right}
use Rattle.bitmap_tree.proofs.BlockLemmas.{block_word, claimed_open}
use Rattle.bitmap_tree.proofs.LayoutLemmas.{aligned_in, fits_here, opens_unit}
use Rattle.bitmap_tree.proofs.handles.BitmapTree.open_under.Goals as goal

pub mask_of-mask-requires-clause-within : goal.mask_of-mask-requires-clause-within
mask_of-mask-requires-clause-within c = fits_here _ _ _ c.args.block c.requires.block refl

pub open_word-requires-clause-word : goal.open_word-requires-clause-word
open_word-requires-clause-word c = block_word (dim_of c.args.self.now) c.first_word.result c.args.block c.requires.block c.first_word.ensures.value

pub open_word-requires-clause-opens : goal.open_word-requires-clause-opens
open_word-requires-clause-opens c = opens_unit (dim_of c.args.self.now) c.first_word.result _ _ _ c.args.unit c.args.block _ c.requires.dim c.requires.unit.1 c.requires.block c.requires.inside c.requires.unit.0.0 c.first_word.ensures.value refl c.mask_of-mask.ensures (one_shl (c.args.block.dim % 6) 64 (omega arith))

pub returns-clause-claimed : goal.returns-clause-claimed
returns-clause-claimed c = claimed_open (dim_of c.args.self.now) c.first_word.result (c.args.block.base / 2 ^ (6 * (c.args.block.dim / 6))) c.mask_of-mask.result c.args.block c.args.seat.now.me.0.trail _ (ap (λ (m : Known). m.0.trail) c.open_word.ensures.opened) c.first_word.ensures.value refl c.mask_of-mask.ensures

pub returns-clause-stays : goal.returns-clause-stays
returns-clause-stays c = record {
  table = c.open_word.ensures.table;
  permits = ap (λ (m : Known). m.0.permits) c.open_word.ensures.opened;
  right = claim_right (dim_of c.args.self.now) c.args.block c.args.seat.now.me c.open_word.new.seat.me _ (aligned_in (dim_of c.args.self.now) c.args.block.dim c.args.block c.requires.block) (ap (λ (m : Known). m.0.trail) c.open_word.ensures.opened)
      (claimed_open (dim_of c.args.self.now) c.first_word.result (c.args.block.base / 2 ^ (6 * (c.args.block.dim / 6))) c.mask_of-mask.result c.args.block c.args.seat.now.me.0.trail _ (ap (λ (m : Known). m.0.trail) c.open_word.ensures.opened) c.first_word.ensures.value refl c.mask_of-mask.ensures);
}
