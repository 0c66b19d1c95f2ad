use Rattle.std.proofs.Common.{◌≡◌, ◌+◌, ◌≤◌, ◌++◌, map, length}
use Rattle.std.specs.List.{All}
use Rattle.std.specs.Vec.{vec_len, vec_capacity}
use Rattle.job_queue.specs.Line.{IsMadeFor}
use Rattle.dispatcher.specs.Reply.{answered, region_of, IsRight}
use Rattle.dispatcher.proofs.finishing.answer_jobs.Given as goal

abbrev pub invariant-loop-queued : goal.invariant-loop-queued
invariant-loop-queued g l = let floor = g.F.Floor in
    floor.is_station (floor.id l.floor) l.station × All (IsMadeFor (floor.id l.floor).dim) l.jobs.items
    × (map answered l.rest.items ++ l.jobs.items ≡ l.fn.jobs.items) × All (IsRight (floor.id l.floor).dim) l.rest.items
    × (floor.grants l.station ≡ floor.grants l.fn.station ++ map region_of l.rest.items)
    × (vec_len l.rest + length l.jobs.items ≤ vec_capacity l.rest)

abbrev pub decreases-loop-queued : goal.decreases-loop-queued
decreases-loop-queued g l = length l.jobs.items
