-- A held block is one of the machine, so it is not refused as another one.
use Rattle.cubejobs_fit.specs.Answers.{region_from}
use Rattle.cubejobs_fit.proofs.ImageLemmas.{held_aligned, size_of}
use Rattle.cubejobs_fit.proofs.held.cubejobs_image_release.Goals as goal

pub returns-then-fault-ne-DONE-clause-done : goal.returns-then-fault-ne-DONE-clause-done
returns-then-fault-ne-DONE-clause-done c = λ image is.
    c.fault_of_block-fault.ensures.done (size_of c.args.n c.args.head.now c.args.rooms.now image)
    (held_aligned c.args.n c.args.head.now c.args.rooms.now (region_from c.args.base c.args.k) image is)
