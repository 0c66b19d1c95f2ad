use Rattle.std.proofs.Common.{IfNone}
use Rattle.cube_shape.specs.Machine.{HasNoFit}
use Rattle.fit_tree.specs.Fit.{held_in}
use Rattle.fit_tree.specs.Image.{fit_in}
use Rattle.fit_tree.proofs.ValueLemmas.{none_in, of_view}
use Rattle.fit_tree.proofs.fit.FitTree.first.Goals as goal

pub returns-clause-none : goal.returns-clause-none
returns-clause-none c =
    of_view (λ n held. IfNone c.first.result (HasNoFit n c.args.k held)) c.self.inside.dim c.self.inside.rooms.items c.args.self.now c.self.view_is
    (none_in c.self.inside.dim c.self.inside.head c.self.inside.rooms.items c.first.result (HasNoFit c.self.inside.dim c.args.k (held_in (fit_in c.self.inside.dim c.self.inside.rooms.items))) c.self.invariant (rw c.deref.ensures.value at c.first.ensures.none))
