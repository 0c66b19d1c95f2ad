use Rattle.cubejobs_lanes.proofs.sleeper_side.SleeperSide.find.Goals as goal

pub returns-in-Some-clause-found : goal.returns-in-Some-clause-found
returns-in-Some-clause-found c = c.wake_on.ensures.found c.args.from
