use Rattle.std.proofs.Common.{◌≡◌, true, sym, ap, ◌∙◌, subst, arith}
use Rattle.line_gate.specs.declared.record.LaneEntries.{LaneEntries}
use Rattle.line_gate.specs.Gate.{GateId, LaneOf}
use Rattle.line_gate.proofs.StepLemmas.{undo_step}
use Rattle.line_gate.proofs.gate.Gate.undo.Goals as goal

pub fetch_sub-requires : goal.fetch_sub-requires
fetch_sub-requires g c = (ap (λ (x : LaneOf). x.gate) c.lane.view_is ∙ (c.requires.gate ∙ sym (ap (λ (g : GateId). g.table) c.self.view_is)), omega (arith, c.self.invariant.0), undo_step _ _ _ _ c.lane.invariant (subst (λ (r : LaneEntries). r.late ≡ true) (sym (ap (λ (x : LaneOf). x.known) c.lane.view_is)) c.requires.late))
