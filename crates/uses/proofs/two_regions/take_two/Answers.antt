-- The second block is apart from what is held, and the first station holds the first block.
use Rattle.uses.proofs.two_regions.take_two.Goals as goal

pub returns : goal.returns
returns c = c.in_ok-other.ensures.given.apart c.args.first c.in_ok-region.region c.in_ok-region.ensures.given.held
