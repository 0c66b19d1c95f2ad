use Rattle.std.proofs.Common.{sym, ap, ◌∙◌, arith}
use Rattle.line_gate.specs.Gate.{GateId, MembersOf}
use Rattle.line_gate.proofs.DealLemmas.{deals_pass}
use Rattle.line_gate.proofs.gate.Gate.deal_pass.Goals as goal

pub split_seat-seat-requires : goal.split_seat-seat-requires
split_seat-seat-requires g c = (ap (λ (x : MembersOf). x.gate) c.members.view_is ∙ (c.requires.gate ∙ sym (ap (λ (g : GateId). g.table) c.self.view_is)), omega (arith, c.self.invariant.0), deals_pass _ _ _)
