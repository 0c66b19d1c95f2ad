use Rattle.std.proofs.Common.{◌≡◌, ◌-◌, ◌≤◌, None, []}
use Rattle.std.specs.List.{All}
use Rattle.std.specs.Vec.{vec_len, vec_capacity}
use Rattle.locked_peers.specs.InnerFloor.View.{view, stations_from}
use Rattle.locked_peers.specs.InnerFloor.Handle.{table_of, size_of, floor_id, is_seated, grants_of}
use Rattle.locked_peers.proofs.floor_members.deal_stations.Given as goal

abbrev pub invariant-loop-number : goal.invariant-loop-number
invariant-loop-number l =
    (l.seat.table_id ≡ table_of l.lock) × (l.seat.me ≡ (view (size_of l.lock) (stations_from l.number (l.count - l.number)) None, []))
    × All (is_seated (floor_id l.lock)) l.stations.items × All (λ s. grants_of s ≡ []) l.stations.items × (vec_len l.stations ≡ l.number) × (l.count ≤ vec_capacity l.stations)
