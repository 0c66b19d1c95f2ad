use Rattle.std.proofs.Common.{◌≡◌, ◌≤◌, map, take, length}
use Rattle.std.specs.Vec.{vec_capacity}
use Rattle.dispatcher.specs.Members.{stop_of}
use Rattle.dispatcher_threads.proofs.running.stops_of.Given as goal

abbrev pub invariant-loop-end : goal.invariant-loop-end
invariant-loop-end g l = (l.stops.items ≡ map stop_of (take l.end-index l.ends)) × (length l.ends ≤ vec_capacity l.stops)
