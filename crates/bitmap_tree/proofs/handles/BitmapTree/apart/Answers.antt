use Rattle.std.proofs.Common.{◌∷◌, [], ◌≤◌, subst, ap, ◌∙◌}
use Rattle.bitmap_tree.specs.Layout.{run_of}
use Rattle.bitmap_tree.specs.Handles.{dim_of}
use Rattle.bitmap_tree.proofs.LayoutLemmas.{two_apart}
use Rattle.bitmap_tree.proofs.handles.BitmapTree.apart.Goals as goal

pub returns-clause-apart : goal.returns-clause-apart
returns-clause-apart c = two_apart (dim_of c.args.self.now) c.args.a.region c.args.b.region c.args.a.seat.me c.args.b.seat.me _ c.args.a.begins c.args.b.begins
    (subst (λ n. c.args.a.region.dim ≤ n) c.requires.first.1 c.args.a.fits) (subst (λ n. c.args.b.region.dim ≤ n) c.requires.second.1 c.args.b.fits)
    (c.args.a.claimed.0 ∙ ap (λ n. run_of n c.args.a.region ∷ []) c.requires.first.1) (c.args.b.claimed.0 ∙ ap (λ n. run_of n c.args.b.region ∷ []) c.requires.second.1) c.merge.ensures.merged c.compare.ensures.apart
