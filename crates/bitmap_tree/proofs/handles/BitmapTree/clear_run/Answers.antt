use Rattle.std.proofs.Common.{rules, subst, sym}
use Rattle.bitmap_tree.specs.Seats.{SeatOf}
use Rattle.bitmap_tree.specs.InnerSteps.{Loses}
use Rattle.bitmap_tree.proofs.StepLemmas.{loses_step}
use Rattle.bitmap_tree.proofs.handles.BitmapTree.clear_run.Goals as goal

pub fetch_sub-requires : goal.fetch_sub-requires
fetch_sub-requires c = (search rules, search rules, loses_step _ _ _ _ c.args.mask _ (search rules) c.ranges.mask.fits (subst (λ (z : SeatOf). Loses c.args.word c.args.mask z.me.0.runs) (sym c.seat.view_is) c.requires.loses))
