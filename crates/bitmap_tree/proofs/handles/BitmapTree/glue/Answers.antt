use Rattle.std.proofs.Common.{rules, subst, sym}
use Rattle.bitmap_tree.specs.Seats.{SeatOf}
use Rattle.bitmap_tree.specs.InnerSteps.{AreNext}
use Rattle.bitmap_tree.proofs.RuleLemmas.{some_word}
use Rattle.bitmap_tree.proofs.StepLemmas.{glues}
use Rattle.bitmap_tree.proofs.handles.BitmapTree.glue.Goals as goal

pub join_seat-requires : goal.join_seat-requires
join_seat-requires c = (search rules, search rules, search rules, some_word _ _ c.args.self.now.words, glues _ _ _ _ _ (subst (λ (y : SeatOf). AreNext y.me.0.runs c.other.inside.seat.me.0.runs) (sym c.seat.view_is) (subst (λ (z : SeatOf). AreNext c.args.seat.now.me.0.runs z.me.0.runs) (sym c.other.view_is) c.requires.next)))
