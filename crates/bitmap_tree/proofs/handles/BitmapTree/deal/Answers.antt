use Rattle.std.proofs.Common.{rules, subst, sym, ◌≡◌, ℕ, ◌<◌}
use Rattle.bitmap_tree.specs.Seats.{SeatOf}
use Rattle.bitmap_tree.specs.InnerRule.{times}
use Rattle.bitmap_tree.proofs.RuleLemmas.{some_word}
use Rattle.bitmap_tree.proofs.StepLemmas.{deals}
use Rattle.bitmap_tree.proofs.handles.BitmapTree.deal.Goals as goal

pub split_seat-requires : goal.split_seat-requires
split_seat-requires c = (search rules, some_word _ _ c.args.self.now.words, deals _ _ _ (subst (λ (z : SeatOf). (q : ℕ) → times q z.me.0.runs ≡ 0) (sym c.seat.view_is) c.requires.nothing) (λ _. (subst (λ (z : SeatOf). 0 < z.me.0.permits) (sym c.seat.view_is) c.requires.some)))
