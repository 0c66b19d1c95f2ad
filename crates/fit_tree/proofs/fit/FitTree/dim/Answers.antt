use Rattle.cube_shape.specs.Machine.{IsLawful}
use Rattle.fit_tree.proofs.ImageLemmas.{Represents-in}
use Rattle.fit_tree.proofs.ValueLemmas.{of_view}
use Rattle.fit_tree.proofs.fit.FitTree.dim.Goals as goal

pub returns-clause-lawful : goal.returns-clause-lawful
returns-clause-lawful c =
    let image = c.self.invariant in
    let represents = Represents-in c.self.inside.dim c.self.inside.rooms.items image.sound in
    of_view IsLawful c.self.inside.dim c.self.inside.rooms.items c.args.self.now c.self.view_is represents.lawful
