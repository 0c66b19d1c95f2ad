-- Two blocks are apart exactly if neither of their nodes is above the other.
use Rattle.std.proofs.Common.{◌+◌, ◌-◌, ◌^◌, arith}
use Rattle.cube_shape.specs.Region.{block}
use Rattle.cube_shape.proofs.RegionLemmas.{AreApart-paths, IsNodeOf-aligned}
use Rattle.fit_tree.specs.Fit.{held_in}
use Rattle.fit_tree.specs.Image.{fit_in}
use Rattle.fit_tree.proofs.NodeLemmas.{IsNode-of, IsNodeOf-at}
use Rattle.fit_tree.proofs.RepresentsLemmas.{free_from_open, nth_named, open_from_free}
use Rattle.fit_tree.proofs.BlockLemmas.{block_of_node}
use Rattle.fit_tree.proofs.ImageLemmas.{Represents-in}
use Rattle.fit_tree.proofs.image.first_apart.Goals as goal

pub returns-in_default-clause-none : goal.returns-in_default-clause-none
returns-in_default-clause-none c = λ head image m within apart free.
    let held = held_in (fit_in c.args.n c.args.rooms.now) in
    let represents = Represents-in c.args.n c.args.rooms.now image.sound in
    let named = nth_named c.args.n c.args.k m c.requires.dim within in
    c.in_default.ensures.none image.sound (2 ^ (c.args.n - c.args.k) + m) (IsNode-of c.args.n (2 ^ (c.args.n - c.args.k) + m) (block c.args.k m) named)
    ((AreApart-paths c.args.n c.node_of.result (2 ^ (c.args.n - c.args.k) + m) c.args.avoid (block c.args.k m) c.node_of.ensures.named named).0 apart)
    (open_from_free c.args.n held c.args.rooms.now represents (2 ^ (c.args.n - c.args.k) + m) (block c.args.k m) named free)

pub returns-clause-aligned : goal.returns-clause-aligned
returns-clause-aligned c = IsNodeOf-aligned c.args.n c.in-Some.node c.block_of.result c.block_of.ensures.named

pub returns-clause-first : goal.returns-clause-first
returns-clause-first c = λ head image.
    let held = held_in (fit_in c.args.n c.args.rooms.now) in
    let represents = Represents-in c.args.n c.args.rooms.now image.sound in
    let node = c.in-Some.ensures.node in
    let at_node = IsNodeOf-at c.args.n c.args.k c.in-Some.node node in (
      c.in-Some.node - 2 ^ (c.args.n - c.args.k),
      block_of_node c.args.n c.args.k c.in-Some.node c.block_of.result node c.block_of.ensures.named,
      record {
        in_cube = omega (arith, node.1, node.2);
        free = free_from_open c.args.n held c.args.rooms.now represents c.in-Some.node (block c.args.k (c.in-Some.node - 2 ^ (c.args.n - c.args.k))) at_node (c.in-Some.ensures.open image.sound);
        apart = (AreApart-paths c.args.n c.node_of.result c.in-Some.node c.args.avoid (block c.args.k (c.in-Some.node - 2 ^ (c.args.n - c.args.k))) c.node_of.ensures.named at_node).1 (c.in-Some.ensures.apart image.sound);
        least = λ i less apart free.
            let named = nth_named c.args.n c.args.k i c.requires.dim (omega (arith, less, node.2)) in
            c.in-Some.ensures.before image.sound (2 ^ (c.args.n - c.args.k) + i) (IsNode-of c.args.n (2 ^ (c.args.n - c.args.k) + i) (block c.args.k i) named)
            ((AreApart-paths c.args.n c.node_of.result (2 ^ (c.args.n - c.args.k) + i) c.args.avoid (block c.args.k i) c.node_of.ensures.named named).0 apart)
            (omega (arith, less, node.1))
            (open_from_free c.args.n held c.args.rooms.now represents (2 ^ (c.args.n - c.args.k) + i) (block c.args.k i) named free);
      },
    )
