use Rattle.std.proofs.Common.{◌≡◌, ◌<◌, ℕ, Some}
use Rattle.std.specs.List.{All}
use Rattle.job_queue.specs.Line.{IsFor}
use Rattle.dispatcher.specs.Feed.{full_since}
use Rattle.dispatcher.proofs.EntryLemmas.{SoFar}
use Rattle.dispatcher.proofs.feeding.hand_in.Given as goal

abbrev pub invariant-loop : goal.invariant-loop
invariant-loop g l = let line = g.L.JobLine in
    line.is_lane (line.id l.fn.line) l.lane
    × All (IsFor (line.id l.fn.line).sizes.machine (line.lane_record l.fn.lane).number) l.left.items
    × SoFar l.fn.jobs.items l.left.items (line.lane_record l.fn.lane) (line.lane_record l.lane)
    × ((turns : ℕ) → l.fn.limit ≡ Some turns → (l.full ≡ full_since (line.lane_record l.fn.lane) (line.lane_record l.lane)) × (l.full < turns))
