-- A block is free exactly if its node is open.
use Rattle.fit_tree.specs.Fit.{held_in}
use Rattle.fit_tree.specs.Image.{fit_in}
use Rattle.fit_tree.proofs.RepresentsLemmas.{free_from_open, open_from_free}
use Rattle.fit_tree.proofs.ImageLemmas.{Represents-in}
use Rattle.fit_tree.proofs.image.is_free.Goals as goal

pub returns : goal.returns
returns c = λ head image.
    let held = held_in (fit_in c.args.n c.args.rooms.now) in
    let represents = Represents-in c.args.n c.args.rooms.now image.sound in (
      λ is. free_from_open c.args.n held c.args.rooms.now represents c.node_of.result c.args.region c.node_of.ensures.named ((c.is_open.ensures.open image.sound).0 is),
      λ free. (c.is_open.ensures.open image.sound).1 (open_from_free c.args.n held c.args.rooms.now represents c.node_of.result c.args.region c.node_of.ensures.named free),
    )
