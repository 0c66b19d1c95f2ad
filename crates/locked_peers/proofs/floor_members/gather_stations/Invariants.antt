use Rattle.std.proofs.Common.{◌≡◌, ◌+◌, None, length}
use Rattle.std.specs.List.{All, AllByRecursion}
use Rattle.locked_peers.specs.InnerFloor.Step.{IsIdle}
use Rattle.locked_peers.specs.InnerFloor.Handle.{table_of, size_of, floor_id, is_seated}
use Rattle.locked_peers.proofs.floor_members.gather_stations.Given as goal

abbrev pub invariant-loop-other : goal.invariant-loop-other
invariant-loop-other l =
    (l.seat.table_id ≡ table_of l.lock) × IsIdle l.seat.me × (length l.seat.me.0.stations + length l.stations.items ≡ (size_of l.lock).stations)
    × AllByRecursion (λ r. r.holds ≡ None) l.seat.me.0.stations × All (is_seated (floor_id l.lock)) l.stations.items

abbrev pub decreases-loop-other : goal.decreases-loop-other
decreases-loop-other l = length l.stations.items
