use Rattle.std.proofs.Common.{◌/◌, ◌^◌, [], ◌∷◌, ◌∙◌, ap, refl}
use Rattle.bitmap_tree.specs.Handles.{dim_of}
use Rattle.bitmap_tree.proofs.AloneLemmas.{looked_none}
use Rattle.bitmap_tree.proofs.HalfLemmas.{half_word, opened_half, opens_half, same_word}
use Rattle.bitmap_tree.proofs.handles.BitmapTree.open_whole_unit.Goals as goal

pub returns-then-region-ne0-clause-both : goal.returns-then-region-ne0-clause-both
returns-then-region-ne0-clause-both c = (c.requires.region.0.0 ∙ ap (λ r. r ∷ []) (same_word (dim_of c.args.self.now) c.args.region c.if-region-ne0.true), c.requires.region.0.1)

pub open_whole-requires-clause-word : goal.open_whole-requires-clause-word
open_whole-requires-clause-word c = half_word (dim_of c.args.self.now) c.first_word.result c.args.region c.requires.region.1 c.if-region-ne0.false c.requires.some c.first_word.ensures.value

pub open_whole-requires-clause-opens : goal.open_whole-requires-clause-opens
open_whole-requires-clause-opens c = opens_half (dim_of c.args.self.now) c.first_word.result _ c.args.region c.args.seat.now.me c.requires.region.1 c.if-region-ne0.false c.requires.some c.first_word.ensures.value refl c.requires.region.0.0

pub returns-clause-both : goal.returns-clause-both
returns-clause-both c = opened_half (dim_of c.args.self.now) c.first_word.result (c.args.region.base / 2 ^ c.args.region.dim) c.args.region c.args.seat.now.me c.open_whole.new.seat.me c.requires.region.1 c.if-region-ne0.false c.requires.some c.first_word.ensures.value refl c.requires.region.0 c.open_whole.ensures.opened c.open_whole.ensures.slots

pub returns-then-region-ne0-clause-looked : goal.returns-then-region-ne0-clause-looked
returns-then-region-ne0-clause-looked c = looked_none c.args.seat.now.me.0.trail
