use Rattle.std.proofs.Common.{◌≡◌, arith}
use Rattle.cube_shape.specs.declared.limits.TheConstants.{MAX_LANES}
use Rattle.jobs_csv.proofs.LaneLemmas.{no_lanes, none_in_lanes, one_more_empty}
use Rattle.jobs_csv.proofs.lanes.Lanes.new.Goals as goal

pub loop-lane-init : goal.loop-lane-init
loop-lane-init c = rw c.in_ok-jobs.ensures.items no_lanes

pub loop-lane-preserved : goal.loop-lane-preserved
loop-lane-preserved c = rw c.in_ok-push.ensures.items (one_more_empty c.loop-lane.jobs.items c.loop-lane._lane c.new.result c.loop-lane.invariant c.new.ensures.items)

pub returns : goal.returns
returns c =
    let all : c.loop-lane._lane ≡ MAX_LANES = omega (arith, c.loop-lane-test.false, c.loop-lane.auto._lane-end) in
    none_in_lanes c.loop-lane.jobs.items (rw all at c.loop-lane.invariant)
