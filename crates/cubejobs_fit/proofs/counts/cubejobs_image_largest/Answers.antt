-- A block is free exactly if a processor is.
use Rattle.std.proofs.Common.{◌<◌, ◌∙◌, subst, ap, arith}
use Rattle.cube_shape.specs.declared.region.Region.{Region}
use Rattle.cubejobs_fit.specs.Answers.{held_of}
use Rattle.cubejobs_fit.proofs.ImageLemmas.{full_has_no_fit, room_for_one}
use Rattle.cubejobs_fit.proofs.counts.cubejobs_image_largest.Goals as goal

pub returns-in_default-clause-done : goal.returns-in_default-clause-done
returns-in_default-clause-done c = λ image p below free.
    absurd (room_for_one c.args.n p (held_of c.args.n c.args.rooms.now) (c.in_default.ensures.none c.args.head.now image 0 (omega arith)) below free)

pub returns-in-Some-first-clause-no_room : goal.returns-in-Some-first-clause-no_room
returns-in-Some-first-clause-no_room c = λ image full.
    let first = c.in-Some-first.ensures.first c.args.head.now image in
    absurd (full_has_no_fit c.args.n c.in-Some.k first.0 (held_of c.args.n c.args.rooms.now) c.in-Some.ensures.dim full first.2)

pub returns-in-Some-first-clause-largest : goal.returns-in-Some-first-clause-largest
returns-in-Some-first-clause-largest c = λ code image k larger.
    c.in-Some.ensures.larger c.args.head.now image k
    (subst (λ d. d < k) (ap (λ (r : Region). r.dim) c.done.ensures.region ∙ c.in-Some-first.ensures.dim) larger)

pub returns-in-None-clause-done : goal.returns-in-None-clause-done
returns-in-None-clause-done c = λ image p below free.
    absurd (c.in-Some.ensures.fits c.args.head.now image (c.in-None.ensures.none c.args.head.now image))
