-- Where nothing fits, a machine without narrower blocks is full.
use Rattle.std.proofs.Common.{arith}
use Rattle.cube_shape.proofs.FallingLemmas.{IsFull-of}
use Rattle.cubejobs_fit.specs.Answers.{held_of}
use Rattle.cubejobs_fit.proofs.ImageLemmas.{lawful}
use Rattle.cubejobs_fit.proofs.take.cubejobs_image_take.Goals as goal

pub returns-in_default-clause-full : goal.returns-in_default-clause-full
returns-in_default-clause-full c = λ image wide code.
    let fits = (c.fault_of_dim-fault.ensures.fine c.if-fault-ne-DONE.false).1 in
    IsFull-of c.args.n c.args.k (held_of c.args.n c.args.rooms.now) (lawful c.args.n c.args.head.now c.args.rooms.now image) wide (omega (arith, fits)) (c.in_default.ensures.none image)

pub returns-clause-no_room : goal.returns-clause-no_room
returns-clause-no_room c = λ image fits none.
    let first = c.in-Some.ensures.first image in
    absurd (none first.0 first.2.in_cube first.2.free)
