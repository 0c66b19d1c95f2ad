use Rattle.std.proofs.Common.{rules, subst, sym, ◌∷◌}
use Rattle.ghost_history.specs.Lists.{rest_of}
use Rattle.bitmap_tree.specs.Seats.{SeatOf}
use Rattle.bitmap_tree.specs.InnerSteps.{Shuts}
use Rattle.bitmap_tree.proofs.StepLemmas.{shut_step}
use Rattle.bitmap_tree.proofs.handles.BitmapTree.shut.Goals as goal

pub compare_exchange_with-requires : goal.compare_exchange_with-requires
compare_exchange_with-requires c = (search rules, search rules, shut_step _ _ _ _ _ _ (search rules) (search rules) (subst (λ (z : SeatOf). Shuts c.args.word z.me.0.runs (c.args.said.now ∷ rest_of z.me.0.runs)) (sym c.seat.view_is) c.requires.shuts))
