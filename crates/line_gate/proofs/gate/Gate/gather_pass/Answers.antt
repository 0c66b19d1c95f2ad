use Rattle.std.proofs.Common.{sym, ap, ◌∙◌, arith}
use Rattle.line_gate.specs.Gate.{GateId, PassOf, EndOf}
use Rattle.line_gate.specs.Inner.Step.{Sat}
use Rattle.line_gate.proofs.DealLemmas.{joins_views}
use Rattle.line_gate.proofs.gate.Gate.gather_pass.Goals as goal

pub join_seat-requires : goal.join_seat-requires
join_seat-requires g c = (
  ap (λ (x : EndOf). x.gate) c.end.view_is ∙ (c.requires.gate ∙ sym (ap (λ (g : GateId). g.table) c.self.view_is)),
  ap (λ (x : PassOf). x.gate) c.pass.view_is ∙ (c.requires.pass ∙ sym (ap (λ (g : GateId). g.table) c.self.view_is)),
  ap (λ (m : Sat). m.1) c.pass.invariant,
  omega (arith, c.self.invariant.0),
  joins_views _ _ _ _ _,
)
