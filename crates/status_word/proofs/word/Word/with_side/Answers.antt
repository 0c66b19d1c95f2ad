-- To set the bit of a side is to join the word that has only this bit.
use Rattle.std.proofs.Common.{sym, subst, bit_or}
use Rattle.status_word.specs.Word.{HasSide, SameElsewhere, side_bit}
use Rattle.status_word.proofs.WordLemmas.{with_side-has, with_side-same}
use Rattle.status_word.proofs.word.Word.with_side.Goals as goal

pub returns-clause-has : goal.returns-clause-has
returns-clause-has c =
    subst (λ mask. HasSide c.args.side (bit_or c.args.self.0 mask)) (sym c.side_mask.ensures.value) (with_side-has c.args.side c.args.self.0)

pub returns-clause-others : goal.returns-clause-others
returns-clause-others c =
    subst (λ mask. SameElsewhere (side_bit c.args.side) c.args.self.0 (bit_or c.args.self.0 mask)) (sym c.side_mask.ensures.value)
    (with_side-same c.args.side c.args.self.0)
