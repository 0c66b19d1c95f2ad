use Rattle.std.proofs.Common.{rules, subst, sym, ◌∷◌}
use Rattle.ghost_history.specs.Lists.{rest_of}
use Rattle.bitmap_tree.specs.Seats.{SeatOf}
use Rattle.bitmap_tree.specs.InnerSteps.{Opens}
use Rattle.bitmap_tree.proofs.StepLemmas.{open_step}
use Rattle.bitmap_tree.proofs.handles.BitmapTree.open_word.Goals as goal

pub compare_exchange_with-requires : goal.compare_exchange_with-requires
compare_exchange_with-requires c = (search rules, search rules, open_step _ _ _ _ _ _ _ (search rules) (subst (λ (z : SeatOf). Opens c.args.word c.args.new z.me.0.runs (c.args.said.now ∷ rest_of z.me.0.runs)) (sym c.seat.view_is) c.requires.opens))
