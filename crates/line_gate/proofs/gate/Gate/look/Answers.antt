use Rattle.std.proofs.Common.{sym, ap, ◌∙◌, arith}
use Rattle.line_gate.specs.Gate.{GateId, LaneOf}
use Rattle.line_gate.proofs.StepLemmas.{look_step}
use Rattle.line_gate.proofs.gate.Gate.look.Goals as goal

pub load-found-requires : goal.load-found-requires
load-found-requires g c = (ap (λ (x : LaneOf). x.gate) c.lane.view_is ∙ (c.requires ∙ sym (ap (λ (g : GateId). g.table) c.self.view_is)), omega (arith, c.self.invariant.0), look_step _ _ _ _ c.lane.invariant)
