use Rattle.std.proofs.Common.{◌≤◌, ◌-◌, length}
use Rattle.std.specs.VecDeque.{deque_capacity}
use Rattle.crossbeam_queue.specs.Passes.{view as view_of, IsPassOf, ruled_capacity}
use Rattle.line_ring.proofs.DrainLemmas.{Drained}
use Rattle.line_ring.proofs.ring.Ring.into_rest.Given as goal

abbrev pub invariant-loop-piece : goal.invariant-loop-piece
invariant-loop-piece g l =
    IsPassOf l.queue l.seat × Drained g.T.Piece.lane g.T.Piece.seq g.T.Piece.is_for (ruled_capacity l.queue) (view_of l.initial.seat) (view_of l.seat) l.rest.items × (ruled_capacity l.queue ≤ deque_capacity l.rest)

abbrev pub decreases-loop-piece : goal.decreases-loop-piece
decreases-loop-piece g l = ruled_capacity l.queue - length l.rest.items
