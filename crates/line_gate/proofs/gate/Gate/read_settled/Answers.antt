use Rattle.std.proofs.Common.{sym, ap, ◌∙◌, arith}
use Rattle.line_gate.specs.Gate.{GateId, PassOf}
use Rattle.line_gate.proofs.StepLemmas.{read_settled_step}
use Rattle.line_gate.proofs.gate.Gate.read_settled.Goals as goal

pub load-requires : goal.load-requires
load-requires g c = (ap (λ (x : PassOf). x.gate) c.pass.view_is ∙ (c.requires ∙ sym (ap (λ (g : GateId). g.table) c.self.view_is)), omega (arith, c.self.invariant.0), read_settled_step _ _ _ _ c.pass.invariant)
