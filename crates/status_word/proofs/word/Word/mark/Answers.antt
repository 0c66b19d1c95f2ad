-- To set the mark of a station is to join the word that has only this bit.
use Rattle.std.proofs.Common.{sym, subst, bit_or}
use Rattle.status_word.specs.Word.{IsMarked, SameElsewhere, mark_bit}
use Rattle.status_word.proofs.WordLemmas.{with_mark-has, with_mark-same}
use Rattle.status_word.proofs.word.Word.mark.Goals as goal

pub returns-clause-has : goal.returns-clause-has
returns-clause-has c =
    subst (λ mask. IsMarked c.args.station (bit_or c.args.self.0 mask)) (sym c.mark_mask.ensures.value) (with_mark-has c.args.station c.args.self.0)

pub returns-clause-others : goal.returns-clause-others
returns-clause-others c =
    subst (λ mask. SameElsewhere (mark_bit c.args.station) c.args.self.0 (bit_or c.args.self.0 mask)) (sym c.mark_mask.ensures.value)
    (with_mark-same c.args.station c.args.self.0)
