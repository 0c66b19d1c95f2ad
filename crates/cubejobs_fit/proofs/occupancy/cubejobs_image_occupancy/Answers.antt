-- The largest dimension is that of the rooms.
use Rattle.cubejobs_fit.proofs.occupancy.cubejobs_image_occupancy.Goals as goal

pub returns-in-Some-clause-larger : goal.returns-in-Some-clause-larger
returns-in-Some-clause-larger c = λ free image k. c.in-Some.ensures.larger c.args.head.now image k

pub returns-in-None-clause-full : goal.returns-in-None-clause-full
returns-in-None-clause-full c = λ none image k. c.in-None.ensures.none c.args.head.now image k
