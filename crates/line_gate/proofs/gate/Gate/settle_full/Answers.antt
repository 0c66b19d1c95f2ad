use Rattle.std.proofs.Common.{◌≡◌, Some, false, sym, ap, ◌∙◌, subst, arith}
use Rattle.line_gate.specs.declared.record.LaneEntries.{LaneEntries}
use Rattle.line_gate.specs.Gate.{GateId, LaneOf}
use Rattle.line_gate.proofs.StepLemmas.{settle_step}
use Rattle.line_gate.proofs.gate.Gate.settle_full.Goals as goal

pub fetch_add-requires : goal.fetch_add-requires
fetch_add-requires g c = (ap (λ (x : LaneOf). x.gate) c.lane.view_is ∙ (c.requires.gate ∙ sym (ap (λ (g : GateId). g.table) c.self.view_is)), omega (arith, c.self.invariant.0), settle_step false _ _ _ _ (g.F.Pushed.entry c.args.full) c.lane.invariant (subst (λ (r : LaneEntries). r.pending ≡ Some (g.F.Pushed.entry c.args.full)) (sym (ap (λ (x : LaneOf). x.known) c.lane.view_is)) c.requires.pending))
