use Rattle.std.specs.Prelude.{◌≤◌, ◌↔◌, IsTrue}
use Rattle.cube_shape.specs.Region.{IsAligned}
use Rattle.cube_shape.specs.Node.{IsNodeOf}
use Rattle.fit_tree.specs.Parts.{HasFitIn, IsHalfOf}
use Rattle.fit_tree.proofs.ValueLemmas.{of_view}
use Rattle.fit_tree.proofs.fit.FitTree.has_fit_at.Goals as goal

pub returns : goal.returns
returns c = λ whole half.
    of_view (λ n held. IsNodeOf n c.args.node half → c.args.k ≤ half.dim → IsAligned n whole → IsHalfOf whole half → HasFitIn n c.args.k held whole → IsTrue c.has_fit_at.result ↔ HasFitIn n c.args.k held half)
    c.self.inside.dim c.self.inside.rooms.items c.args.self.now c.self.view_is
    ((rw c.deref.ensures.value at c.has_fit_at.ensures) c.self.inside.head whole half c.self.invariant)
