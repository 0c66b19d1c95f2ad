use Rattle.std.specs.Prelude.{◌↔◌, IsTrue}
use Rattle.cube_shape.specs.Machine.{IsFree}
use Rattle.fit_tree.proofs.ValueLemmas.{of_view}
use Rattle.fit_tree.proofs.fit.FitTree.is_free.Goals as goal

pub returns : goal.returns
returns c =
    of_view (λ _ held. IsTrue c.is_free.result ↔ IsFree held c.args.region) c.self.inside.dim c.self.inside.rooms.items c.args.self.now c.self.view_is
    ((rw c.deref.ensures.value at c.is_free.ensures) c.self.inside.head c.self.invariant)
