use Rattle.std.proofs.Common.{sym, subst}
use Rattle.crossbeam_queue.specs.Fifo.{Forks}
use Rattle.line_ring.specs.Inner.View.{for_next_machine, empty_view}
use Rattle.line_ring.specs.Inner.Rule.{Keeps}
use Rattle.line_ring.proofs.DealLemmas.{opens, next_machine}
use Rattle.line_ring.proofs.ring.Ring.open.Goals as goal

pub ruled-requires-clause-rule : goal.ruled-requires-clause-rule
ruled-requires-clause-rule g c = opens _ _ _

pub another-requires-clause-rule : goal.another-requires-clause-rule
another-requires-clause-rule g c =
    subst (λ v. Forks (Keeps g.T.Piece.lane g.T.Piece.seq g.T.Piece.is_for) c.loop.seat.id v (for_next_machine v) empty_view) (sym c.loop.invariant.1) (next_machine _ _ _ c.loop.seat.id c.loop.counter)
