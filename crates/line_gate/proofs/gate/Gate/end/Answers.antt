use Rattle.std.proofs.Common.{length, sym, ap, ◌∙◌, subst}
use Rattle.std.specs.List.{AllByRecursion}
use Rattle.std.proofs.lemmas.List.Elements.{recursion_from_All}
use Rattle.line_gate.specs.Gate.{GateId, EndOf}
use Rattle.line_gate.specs.Record.{IsSettled}
use Rattle.line_gate.specs.Run.{WholeGate}
use Rattle.line_gate.specs.Inner.Step.{Sat}
use Rattle.line_gate.proofs.EndLemmas.{ends}
use Rattle.line_gate.proofs.gate.Gate.end.Goals as goal

pub returns : goal.returns
returns g c =
    let v = c.end.inside.seat.me.0 in
    let is = c.end.view_is in
    let id = c.self.view_is in
    subst (λ (x : EndOf). WholeGate x.lanes x.passes x.number) is
    (ends _ _ v c.end.inside.number _ _ c.close_with.ensures.values.2
    (ap (λ (m : Sat). m.0.closers) c.end.invariant)
    (ap (λ (x : EndOf). length x.lanes) is ∙ (c.requires.all_lanes ∙ sym (ap (λ (x : GateId). x.counts.lanes) id)))
    (ap (λ (x : EndOf). length x.passes) is ∙ (c.requires.all_passes ∙ sym (ap (λ (x : GateId). x.counts.passes) id)))
    (subst (λ (x : EndOf). AllByRecursion IsSettled x.lanes) (sym is) (recursion_from_All IsSettled _ c.requires.settled)))
