use Rattle.std.proofs.Common.{rules, subst, sym, ◌∷◌}
use Rattle.ghost_history.specs.Lists.{rest_of}
use Rattle.bitmap_tree.specs.Seats.{SeatOf}
use Rattle.bitmap_tree.specs.InnerSteps.{Changes}
use Rattle.bitmap_tree.proofs.StepLemmas.{claim_step}
use Rattle.bitmap_tree.proofs.handles.BitmapTree.claim.Goals as goal

pub compare_exchange_with-requires : goal.compare_exchange_with-requires
compare_exchange_with-requires c = (search rules, search rules, claim_step _ _ _ _ _ _ _ _ (search rules) (search rules) (subst (λ (z : SeatOf). Changes c.args.word c.args.old c.args.new z.me.0.runs (c.args.said.now ∷ rest_of z.me.0.runs)) (sym c.seat.view_is) c.requires.changes))
