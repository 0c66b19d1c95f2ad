use Rattle.std.proofs.Common.{ap, ◌∙◌, arith}
use Rattle.line_ring.specs.Ring.{EndOf}
use Rattle.line_ring.proofs.DealLemmas.{deals_pass, pass_dealt}
use Rattle.line_ring.proofs.ring.Ring.deal_pass.Goals as goal

pub another-seat-requires-clause-rule : goal.another-seat-requires-clause-rule
another-seat-requires-clause-rule g c = deals_pass _ _ _ _ _

pub invariant_of-end : goal.invariant_of-end
invariant_of-end g c =
    let same = ap (λ (e : EndOf g.row.T.Denot). e.dealt_passes) c.end.view_is in
    record {
      none_out = c.another-seat.ensures.queue.0.2 ∙ c.end.invariant.none_out;
      known = pass_dealt _ _ _ _ c.end.invariant.known (omega (arith, same, c.requires.few)) c.another-seat.ensures.rule.0;
    }
