use Rattle.std.proofs.Common.{◌+◌, ◌<◌, rules, subst, sym}
use Rattle.bitmap_tree.specs.Rule.{word_count}
use Rattle.bitmap_tree.specs.Handles.{dim_of}
use Rattle.bitmap_tree.proofs.AloneLemmas.{shut_right}
use Rattle.bitmap_tree.proofs.LayoutLemmas.{word_there, shuts_unit}
use Rattle.bitmap_tree.specs.InnerTrail.{HasBit, StepsOn, left_by}
use Rattle.bitmap_tree.proofs.SweepLemmas.{exchange_steps, shut_used}
use Rattle.bitmap_tree.proofs.handles.BitmapTree.shut_unit.Goals as goal

pub shut-requires-clause-word : goal.shut-requires-clause-word
shut-requires-clause-word c = subst (λ f. f + c.args.number < word_count (dim_of c.args.self.now)) (sym c.first_word.ensures.value) (word_there _ _ _ c.requires.number)

pub returns-clause-taken : goal.returns-clause-taken
returns-clause-taken c = shuts_unit _ _ c.first_word.result c.args.number c.shut.new.seat.me c.args.self.now.dim_in_limits c.requires.level c.first_word.ensures.value c.requires.number (search rules)

pub returns-then-shut-ne0-clause-used : goal.returns-then-shut-ne0-clause-used
returns-then-shut-ne0-clause-used c = subst (λ f. HasBit (left_by c.shut.new.seat.me.0.trail (f + c.args.number)) 0 64) c.first_word.ensures.value
    (shut_used c.args.seat.now.me c.shut.new.seat.me (c.first_word.result + c.args.number) c.shut.result _ _ (search rules) c.shut.ensures.won c.shut.ensures.lost)

pub returns-then-shut-ne0-clause-steps : goal.returns-then-shut-ne0-clause-steps
returns-then-shut-ne0-clause-steps c = subst (λ f. StepsOn (f + c.args.number) (f + c.args.number + 1) c.args.seat.now.me c.shut.new.seat.me) c.first_word.ensures.value
    (exchange_steps c.args.seat.now.me c.shut.new.seat.me (c.first_word.result + c.args.number) c.shut.result 0 18446744073709551615 _ _ c.shut.ensures.won c.shut.ensures.lost)

pub returns-clause-used : goal.returns-clause-used
returns-clause-used c = subst (λ f. HasBit (left_by c.shut.new.seat.me.0.trail (f + c.args.number)) 0 64) c.first_word.ensures.value
    (shut_used c.args.seat.now.me c.shut.new.seat.me (c.first_word.result + c.args.number) c.shut.result _ _ (search rules) c.shut.ensures.won c.shut.ensures.lost)

pub returns-clause-steps : goal.returns-clause-steps
returns-clause-steps c = subst (λ f. StepsOn (f + c.args.number) (f + c.args.number + 1) c.args.seat.now.me c.shut.new.seat.me) c.first_word.ensures.value
    (exchange_steps c.args.seat.now.me c.shut.new.seat.me (c.first_word.result + c.args.number) c.shut.result 0 18446744073709551615 _ _ c.shut.ensures.won c.shut.ensures.lost)

pub returns-then-shut-ne0-clause-stays : goal.returns-then-shut-ne0-clause-stays
returns-then-shut-ne0-clause-stays c = record {
  table = c.shut.ensures.table;
  permits = search rules;
  right = shut_right (dim_of c.args.self.now) c.args.seat.now.me c.shut.new.seat.me (c.first_word.result + c.args.number) c.shut.result _ _ c.shut.ensures.won c.shut.ensures.lost;
}

pub returns-clause-stays : goal.returns-clause-stays
returns-clause-stays c = record {
  table = c.shut.ensures.table;
  permits = search rules;
  right = shut_right (dim_of c.args.self.now) c.args.seat.now.me c.shut.new.seat.me (c.first_word.result + c.args.number) c.shut.result _ _ c.shut.ensures.won c.shut.ensures.lost;
}
