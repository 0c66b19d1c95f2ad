-- The first open node is the first fit.
use Rattle.std.proofs.Common.{◌-◌, ◌^◌, refl}
use Rattle.fit_tree.specs.Fit.{held_in}
use Rattle.fit_tree.specs.Image.{fit_in}
use Rattle.cube_shape.proofs.RegionLemmas.{IsNodeOf-aligned}
use Rattle.fit_tree.proofs.RoomLemmas.{whole_is_open}
use Rattle.fit_tree.proofs.WalkLemmas.{OnPath-root}
use Rattle.fit_tree.proofs.RepresentsLemmas.{first_fit, no_fit}
use Rattle.fit_tree.proofs.BlockLemmas.{block_of_node}
use Rattle.fit_tree.proofs.ImageLemmas.{CanSet-first, Gives-in, IsImage-written, Represents-in}
use Rattle.fit_tree.proofs.image.take.Goals as goal

pub returns-in_default-clause-none : goal.returns-in_default-clause-none
returns-in_default-clause-none c = λ image.
    no_fit c.args.n (held_in (fit_in c.args.n c.args.rooms.now)) c.args.rooms.now (Represents-in c.args.n c.args.rooms.now image.sound) c.args.k c.requires.dim (c.in_default.ensures.none image.sound)

pub returns-clause-aligned : goal.returns-clause-aligned
returns-clause-aligned c = IsNodeOf-aligned c.args.n c.in-Some.node c.block_of.result c.block_of.ensures.named

pub returns-clause-image : goal.returns-clause-image
returns-clause-image c = λ image.
    let can = CanSet-first c.args.n c.args.k 1 c.in-Some.node c.args.rooms.now image.sound (c.in-Some.ensures.first image.sound) in
    IsImage-written c.args.n c.args.head.now _ c.args.rooms.now c.set_room.new.rooms image (c.set_room.ensures.sound can) c.set_room.ensures.len c.set_room.ensures.no_node (c.set_room.ensures.counted can image.counted) refl refl refl

pub returns-clause-first : goal.returns-clause-first
returns-clause-first c = λ image.
    let first = c.in-Some.ensures.first image.sound in
    let clear = whole_is_open c.args.n c.args.rooms.now image.sound c.args.k c.in-Some.node c.in-Some.ensures.node first.whole first.above in (
      c.in-Some.node - 2 ^ (c.args.n - c.args.k),
      block_of_node c.args.n c.args.k c.in-Some.node c.block_of.result c.in-Some.ensures.node c.block_of.ensures.named,
      first_fit c.args.n (held_in (fit_in c.args.n c.args.rooms.now)) c.args.rooms.now (Represents-in c.args.n c.args.rooms.now image.sound) c.args.k c.in-Some.node c.in-Some.ensures.node clear
          (λ w node less. first.before w node (OnPath-root c.args.n c.args.k w node) less),
    )

pub returns-clause-given : goal.returns-clause-given
returns-clause-given c = λ image.
    let first = c.in-Some.ensures.first image.sound in
    let can = CanSet-first c.args.n c.args.k 1 c.in-Some.node c.args.rooms.now image.sound first in
    let clear = whole_is_open c.args.n c.args.rooms.now image.sound c.args.k c.in-Some.node c.in-Some.ensures.node first.whole first.above in
    Gives-in c.args.n c.args.k c.in-Some.node c.args.rooms.now c.set_room.new.rooms c.block_of.result image.sound (c.set_room.ensures.sound can) c.block_of.ensures.named (c.set_room.ensures.others can) c.block_of.ensures.dim clear ((c.set_room.ensures.own can).1 refl)
