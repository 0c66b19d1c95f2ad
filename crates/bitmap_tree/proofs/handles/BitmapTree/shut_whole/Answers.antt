use Rattle.std.proofs.Common.{ap, rules, subst, sym}
use Rattle.bitmap_tree.specs.Layout.{Known}
use Rattle.bitmap_tree.specs.Seats.{SeatOf}
use Rattle.bitmap_tree.specs.InnerSteps.{first_over, Fills}
use Rattle.bitmap_tree.specs.Trail.{OnlyLooked}
use Rattle.bitmap_tree.proofs.AloneLemmas.{looked_one}
use Rattle.bitmap_tree.proofs.StepLemmas.{shut_whole_step}
use Rattle.bitmap_tree.proofs.handles.BitmapTree.shut_whole.Goals as goal

pub load-requires : goal.load-requires
load-requires c = (search rules, search rules, shut_whole_step _ _ _ _ _ (search rules) (search rules) (subst (λ (z : SeatOf). Fills c.args.word z.me.0.runs (first_over z.me.0.runs)) (sym c.seat.view_is) c.requires.fills))

pub returns-clause-looked : goal.returns-clause-looked
returns-clause-looked c = subst (λ (z : SeatOf). OnlyLooked z.me.0.trail c.load.new.seat.me.0.trail) c.seat.view_is
    (looked_one c.seat.inside.seat.me c.load.new.seat.me c.args.word c.load.result (ap (λ (m : Known). m.0.trail) c.load.ensures.2))
