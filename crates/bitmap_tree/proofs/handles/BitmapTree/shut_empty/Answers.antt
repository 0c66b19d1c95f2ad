use Rattle.std.proofs.Common.{◌+◌, ◌<◌, rules, subst, sym}
use Rattle.bitmap_tree.specs.Rule.{word_count}
use Rattle.bitmap_tree.specs.InnerTrail.{HasBit, left_by}
use Rattle.bitmap_tree.specs.Handles.{dim_of}
use Rattle.bitmap_tree.proofs.LayoutLemmas.{word_there}
use Rattle.bitmap_tree.proofs.SweepLemmas.{found_used}
use Rattle.bitmap_tree.proofs.handles.BitmapTree.shut_empty.Goals as goal

pub load_word-requires-clause-word : goal.load_word-requires-clause-word
load_word-requires-clause-word c = subst (λ f. f + c.args.number < word_count (dim_of c.args.self.now)) (sym c.first_word.ensures.value) (word_there _ _ _ c.requires.number)

pub returns-then-load_word-ne0-clause-used : goal.returns-then-load_word-ne0-clause-used
returns-then-load_word-ne0-clause-used c = subst (λ f. HasBit (left_by c.load_word.new.seat.me.0.trail (f + c.args.number)) 0 64) c.first_word.ensures.value
    (found_used c.args.seat.now.me c.load_word.new.seat.me (c.first_word.result + c.args.number) c.load_word.result _ (search rules) c.if-load_word-ne0.true c.load_word.ensures.seat)
