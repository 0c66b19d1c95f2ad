use Rattle.std.proofs.Common.{◌<◌, length, sym, ap, ◌∙◌, subst, arith}
use Rattle.cube_shape.specs.declared.limits.TheConstants.{MAX_ENTRIES}
use Rattle.line_gate.specs.declared.record.LaneEntries.{LaneEntries}
use Rattle.line_gate.specs.Record.{IsSettled}
use Rattle.line_gate.specs.Gate.{GateId, LaneOf}
use Rattle.line_gate.proofs.StepLemmas.{enter_step}
use Rattle.line_gate.proofs.gate.Gate.enter.Goals as goal

pub fetch_add-found-requires : goal.fetch_add-found-requires
fetch_add-found-requires g c = (
  ap (λ (x : LaneOf). x.gate) c.lane.view_is ∙ (c.requires.gate ∙ sym (ap (λ (g : GateId). g.table) c.self.view_is)),
  omega (arith, c.self.invariant.0),
  enter_step _ _ _ _ c.lane.invariant (subst (λ (r : LaneEntries). IsSettled r) (sym (ap (λ (x : LaneOf). x.known) c.lane.view_is)) c.requires.settled) (subst (λ (r : LaneEntries). length r.entries < MAX_ENTRIES) (sym (ap (λ (x : LaneOf). x.known) c.lane.view_is)) c.requires.unspent),
)
