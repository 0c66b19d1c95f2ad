use Rattle.std.proofs.Common.{sym, ap, ◌∙◌, arith}
use Rattle.line_gate.specs.Gate.{GateId, CloserOf}
use Rattle.line_gate.proofs.StepLemmas.{close_step}
use Rattle.line_gate.proofs.gate.Gate.close.Goals as goal

pub fetch_or-number-requires : goal.fetch_or-number-requires
fetch_or-number-requires g c = (ap (λ (x : CloserOf). x.gate) c.closer.view_is ∙ (c.requires ∙ sym (ap (λ (g : GateId). g.table) c.self.view_is)), omega (arith, c.self.invariant.0), close_step _ _ _ _ c.closer.invariant)
