use Rattle.std.proofs.Common.{IfNone}
use Rattle.fit_tree.specs.Fit.{held_in}
use Rattle.fit_tree.specs.Image.{fit_in}
use Rattle.fit_tree.specs.FirstApart.{HasNoneApart}
use Rattle.fit_tree.proofs.ValueLemmas.{none_in, of_view}
use Rattle.fit_tree.proofs.fit.FitTree.first_apart.Goals as goal

pub returns-clause-none : goal.returns-clause-none
returns-clause-none c =
    of_view (λ n held. IfNone c.first_apart.result (HasNoneApart n c.args.k held c.args.avoid)) c.self.inside.dim c.self.inside.rooms.items c.args.self.now c.self.view_is
    (none_in c.self.inside.dim c.self.inside.head c.self.inside.rooms.items c.first_apart.result (HasNoneApart c.self.inside.dim c.args.k (held_in (fit_in c.self.inside.dim c.self.inside.rooms.items)) c.args.avoid) c.self.invariant (rw c.deref.ensures.value at c.first_apart.ensures.none))
