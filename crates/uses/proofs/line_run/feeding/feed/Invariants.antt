use Rattle.std.proofs.Common.{◌≡◌, ◌++◌}
use Rattle.std.specs.List.{All}
use Rattle.job_queue.specs.Record.{accepted_jobs}
use Rattle.job_queue.specs.Line.{IsFor}
use Rattle.uses.proofs.line_run.feeding.feed.Given as goal

abbrev pub invariant-loop : goal.invariant-loop
invariant-loop g l = let line = g.L.JobLine in
    line.is_lane (line.id l.line) l.lane × ((line.lane_record l.lane).number ≡ (line.lane_record l.fn.lane).number)
    × All (IsFor (line.id l.line).sizes.machine (line.lane_record l.fn.lane).number) l.jobs.items
    × (accepted_jobs (line.lane_record l.lane) ++ l.jobs.items ≡ accepted_jobs (line.lane_record l.fn.lane) ++ l.fn.jobs.items)
