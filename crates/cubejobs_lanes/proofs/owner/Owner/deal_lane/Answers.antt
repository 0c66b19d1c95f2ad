-- The lane is the one that was in the first full place.
use Rattle.std.proofs.Common.{rules, Some, ap}
use Rattle.cubejobs_lanes.proofs.owner.Owner.deal_lane.Goals as goal

pub returns-clause-dealt : goal.returns-clause-dealt
returns-clause-dealt c = record {
  place = c.in-Some.place;
  kept = c.in-Some-take_from.kept;
  side = _;
  first = search rules;
  was = search rules;
  is = ap Some c.filled.ensures;
  lane = search rules;
  share = search rules;
  emptied = search rules;
  common = search rules;
  stage = search rules;
  workers = search rules;
}
