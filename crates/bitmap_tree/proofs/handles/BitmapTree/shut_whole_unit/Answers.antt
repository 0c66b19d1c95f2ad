use Rattle.std.proofs.Common.{◌/◌, ◌^◌, [], ◌∷◌, ◌∙◌, ap, refl, sym}
use Rattle.bitmap_tree.specs.Handles.{dim_of}
use Rattle.bitmap_tree.proofs.AloneLemmas.{looked_none}
use Rattle.bitmap_tree.proofs.HalfLemmas.{fills_half, half_word, same_word, shut_half}
use Rattle.bitmap_tree.proofs.handles.BitmapTree.shut_whole_unit.Goals as goal

pub returns-then-region-ne0-clause-whole : goal.returns-then-region-ne0-clause-whole
returns-then-region-ne0-clause-whole c = (c.requires.both.0 ∙ ap (λ r. r ∷ []) (sym (same_word (dim_of c.args.self.now) c.args.region c.if-region-ne0.true)), c.requires.both.1)

pub shut_whole-requires-clause-word : goal.shut_whole-requires-clause-word
shut_whole-requires-clause-word c = half_word (dim_of c.args.self.now) c.first_word.result c.args.region c.requires.inside c.if-region-ne0.false c.requires.some c.first_word.ensures.value

pub shut_whole-requires-clause-fills : goal.shut_whole-requires-clause-fills
shut_whole-requires-clause-fills c = fills_half (dim_of c.args.self.now) c.first_word.result _ c.args.region c.args.seat.now.me c.requires.inside c.if-region-ne0.false c.requires.some c.first_word.ensures.value refl c.requires.both.0

pub returns-clause-whole : goal.returns-clause-whole
returns-clause-whole c = shut_half (dim_of c.args.self.now) c.first_word.result (c.args.region.base / 2 ^ c.args.region.dim) c.args.region c.args.seat.now.me c.shut_whole.new.seat.me c.requires.inside c.if-region-ne0.false c.requires.some c.first_word.ensures.value refl c.requires.both c.shut_whole.ensures.shut c.shut_whole.ensures.slots

pub returns-then-region-ne0-clause-looked : goal.returns-then-region-ne0-clause-looked
returns-then-region-ne0-clause-looked c = looked_none c.args.seat.now.me.0.trail
