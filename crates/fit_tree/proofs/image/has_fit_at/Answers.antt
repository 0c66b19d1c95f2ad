-- The room of the node says it, where the way to it is open.
use Rattle.std.proofs.Common.{◌+◌, ◌≤◌, refl, sym, arith}
use Rattle.std.proofs.lemmas.Bool.{true≢false}
use Rattle.fit_tree.specs.Fit.{held_in}
use Rattle.fit_tree.specs.Rooms.{room_of}
use Rattle.fit_tree.specs.Image.{fit_in}
use Rattle.fit_tree.proofs.FitInLemmas.{enough_fit, fit_enough}
use Rattle.fit_tree.proofs.ImageLemmas.{Represents-in}
use Rattle.fit_tree.proofs.image.has_fit_at.Goals as goal

pub returns-then-rooms-node : goal.returns-then-rooms-node
returns-then-rooms-node c = λ head whole half image of_half fits aligned is_half has.
    let held = held_in (fit_in c.args.n c.args.rooms.now) in
    let represents = Represents-in c.args.n c.args.rooms.now image.sound in (
      λ yes. absurd (true≢false (sym yes)),
      λ fit. (let enough : c.args.k + 2 ≤ room_of c.args.rooms.now c.args.node = fit_enough c.args.n c.args.k held c.args.rooms.now image.sound represents c.args.node half of_half fits fit in absurd (omega (arith, enough))),
    )

pub returns : goal.returns
returns c = λ head whole half image of_half fits aligned is_half has.
    let held = held_in (fit_in c.args.n c.args.rooms.now) in
    let represents = Represents-in c.args.n c.args.rooms.now image.sound in (
      λ yes. enough_fit c.args.n c.args.k held c.args.rooms.now image.sound represents c.args.node half of_half fits whole aligned is_half has (omega arith),
      λ fit. refl,
    )
