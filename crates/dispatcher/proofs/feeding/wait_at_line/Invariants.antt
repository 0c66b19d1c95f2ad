use Rattle.std.proofs.Common.{◌≡◌}
use Rattle.dispatcher.proofs.feeding.wait_at_line.Given as goal

abbrev pub invariant-loop : goal.invariant-loop
invariant-loop g l = let line = g.L.JobLine in
    line.is_lane (line.id l.fn.line) l.lane × (line.lane_record l.lane ≡ line.lane_record l.fn.lane)
