use Rattle.std.proofs.Common.{◌≡◌, Some, sym, ap, ◌∙◌, subst, arith}
use Rattle.line_gate.specs.declared.record.PassReadings.{PassReadings}
use Rattle.line_gate.specs.Gate.{GateId, PassOf}
use Rattle.line_gate.proofs.StepLemmas.{read_gate_step}
use Rattle.line_gate.proofs.gate.Gate.read_gate.Goals as goal

pub load-found-requires : goal.load-found-requires
load-found-requires g c = (ap (λ (x : PassOf). x.gate) c.pass.view_is ∙ (c.requires.gate ∙ sym (ap (λ (g : GateId). g.table) c.self.view_is)), omega (arith, c.self.invariant.0), read_gate_step _ _ _ _ c.args._settled c.pass.invariant (subst (λ (r : PassReadings). r.settled ≡ Some c.args._settled) (sym (ap (λ (x : PassOf). x.known) c.pass.view_is)) c.requires.half))
