-- Where nothing fits there is no first fit.
use Rattle.cubejobs_fit.proofs.looks.cubejobs_image_first.Goals as goal

pub returns-in-None-clause-done : goal.returns-in-None-clause-done
returns-in-None-clause-done c = λ image fits m first.
    absurd (c.in-None.ensures.none c.args.head.now image m first.in_cube first.free)
