use Rattle.std.proofs.Common.{◌≡◌, [], length, sym, refl, ap, subst, arith}
use Rattle.line_ring.specs.Inner.View.{view}
use Rattle.line_ring.proofs.DealLemmas.{gathers}
use Rattle.line_ring.proofs.ring.Ring.gather_lane.Goals as goal

pub absorb-requires-clause-rule : goal.absorb-requires-clause-rule
absorb-requires-clause-rule g c =
    gathers _ _ _ _ _ _ _ (omega (arith, ap length c.end.invariant.known.rests)) (subst (λ u. u ≡ view u.machine [] u.lanes [] u.passes []) (sym c.lane.invariant.known.alone) refl)
