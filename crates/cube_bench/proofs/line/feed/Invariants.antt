use Rattle.cube_bench.proofs.line.feed.Given as goal

abbrev pub invariant-loop : goal.invariant-loop
invariant-loop g l = let line = g.L.JobLine in line.is_lane (line.id l.line) l.lane
