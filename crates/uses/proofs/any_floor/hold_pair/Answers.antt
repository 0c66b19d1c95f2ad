-- Both blocks are those that were compared.
use Rattle.uses.proofs.any_floor.hold_pair.Goals as goal

pub returns-clause-apart : goal.returns-clause-apart
returns-clause-apart g c = rw c.region.ensures (rw c.region-2.ensures c.apart-first.ensures.apart)

pub returns-clause-asked : goal.returns-clause-asked
returns-clause-asked g c = (
  rw c.region.ensures (rw c.apart-first.ensures.first_region c.take-first.ensures.dimension),
  rw c.region-2.ensures (rw c.apart-first.ensures.second_region c.take-second.ensures.dimension),
)

pub returns-clause-aligned : goal.returns-clause-aligned
returns-clause-aligned g c = (
  rw c.region.ensures (rw c.apart-first.ensures.first_region (rw (← c.in_ok-floor.ensures.dim) c.take-first.ensures.aligned)),
  rw c.region-2.ensures (rw c.apart-first.ensures.second_region (rw (← c.in_ok-floor.ensures.dim) c.take-second.ensures.aligned)),
)

pub returns-clause-free : goal.returns-clause-free
returns-clause-free g c = rw (← c.in_ok-floor.ensures.dim) c.close.ensures.free
