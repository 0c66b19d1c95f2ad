-- Where nothing fits, a machine without narrower blocks is full.
use Rattle.cube_shape.specs.Machine.{HasNoFit, IsLawful}
use Rattle.cube_shape.proofs.FallingLemmas.{IsFull-of}
use Rattle.fit_tree.specs.Fit.{held_in}
use Rattle.fit_tree.proofs.ImageLemmas.{Represents-in}
use Rattle.fit_tree.proofs.ValueLemmas.{of_view}
use Rattle.fit_tree.proofs.fit.FitTree.take.Goals as goal

pub returns-in_default-clause-refused : goal.returns-in_default-clause-refused
returns-in_default-clause-refused c =
    of_view (λ n held. HasNoFit n c.args.k held) c.self.inside.dim c.self.inside.rooms.items c.args.self.now c.self.view_is
    ((rw c.deref_mut.ensures.value at c.in_default.ensures.none) c.self.invariant)

pub returns-in_default-clause-full : goal.returns-in_default-clause-full
returns-in_default-clause-full c = λ wide.
    let image = c.self.invariant in
    let represents = Represents-in c.self.inside.dim c.self.inside.rooms.items image.sound in
    let lawful = of_view IsLawful c.self.inside.dim c.self.inside.rooms.items c.args.self.now c.self.view_is represents.lawful in
    let none = of_view (λ n held. HasNoFit n c.args.k held) c.self.inside.dim c.self.inside.rooms.items c.args.self.now c.self.view_is
    ((rw c.deref_mut.ensures.value at c.in_default.ensures.none) c.self.invariant) in
    IsFull-of c.args.self.now.dim c.args.k (held_in c.args.self.now) lawful wide c.requires none
