use Rattle.std.proofs.Common.{◌≡◌}
use Rattle.crossbeam_queue.specs.Passes.{view as view_of, IsPassOf}
use Rattle.line_ring.proofs.DealLemmas.{whole_view}
use Rattle.line_ring.proofs.ring.Ring.open.Given as goal

abbrev pub invariant-loop : goal.invariant-loop
invariant-loop g l = IsPassOf l.queue l.seat × (view_of l.seat ≡ whole_view l.counter)
