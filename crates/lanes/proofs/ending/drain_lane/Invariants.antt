use Rattle.std.proofs.Common.{◌≡◌, ◌-◌, ◌≤◌, ◌++◌, map}
use Rattle.std.specs.VecDeque.{deque_capacity}
use Rattle.std.specs.Mem.Slots.{slots_items}
use Rattle.ghost_history.specs.Lists.{numbered_from}
use Rattle.lanes.specs.declared.record.LaneJob.{LaneJob}
use Rattle.lanes.specs.Inner.Rest.{left_job}
use Rattle.lanes.proofs.ending.drain_lane.Given as goal

abbrev pub invariant-loop-seq : goal.invariant-loop-seq
invariant-loop-seq l =
    (l.taken ≤ l.seq) × (l.seq ≤ l.accepted) × (deque_capacity l.rest ≡ deque_capacity l.initial.rest)
    × (l.rest.items ≡ l.initial.rest.items ++ map (λ (j : LaneJob). (l.lane, j)) (numbered_from (left_job l.plan (slots_items l.closed.words) l.lane) l.taken (l.seq - l.taken)))

abbrev pub decreases-loop-seq : goal.decreases-loop-seq
decreases-loop-seq l = l.accepted - l.seq
