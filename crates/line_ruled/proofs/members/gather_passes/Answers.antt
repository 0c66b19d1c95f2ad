use Rattle.std.proofs.Common.{◌∷◌, ◌++◌, [], List, append_assoc, sym, refl, ap, ◌∙◌}
use Rattle.std.proofs.lemmas.List.Elements.{All-head, All-rest, All-same}
use Rattle.line_gate.specs.declared.record.PassReadings.{PassReadings}
use Rattle.line_ring.specs.declared.record.PassRecord.{PassRecord as RingPassRecord}
use Rattle.job_queue.specs.declared.record.QueuedJob.{QueuedJob}
use Rattle.line_ruled.specs.declared.handle.RuledPass.{RuledPass}
use Rattle.line_ruled.specs.Inner.Handle.{line_of, is_pass, gate_passes, ring_passes}
use Rattle.line_ruled.proofs.DealtLemmas.{pass_here}
use Rattle.line_ruled.proofs.members.gather_passes.Goals as goal

pub loop-pass-init : goal.loop-pass-init
loop-pass-init c =
    let is = c.from_vec-passes.ensures.items in
    let line = line_of c.args.gate.now c.args.ring.now in (
      c.requires.gate_end,
      ap (λ (xs : List RuledPass). c.args.gate_end.now.passes ++ gate_passes xs) is,
      refl,
      refl,
      c.requires.ring_end,
      ap (λ (xs : List RuledPass). c.args.ring_end.now.back_passes ++ ring_passes xs) is,
      refl,
      refl,
      refl,
      All-same (is_pass line) _ _ is c.requires.passes,
    )

pub gather_pass-requires-clause-pass : goal.gather_pass-requires-clause-pass
gather_pass-requires-clause-pass c =
    let line = line_of c.args.gate.now c.args.ring.now in
    (pass_here c.args.gate.now c.args.ring.now c.in-Some.pass (All-head (is_pass line) c.in-Some.pass _ (All-same (is_pass line) _ _ (sym c.in-Some.ensures.items) c.loop-pass.invariant.9))).0

pub gather_pass-requires-in-Some-clause-pass : goal.gather_pass-requires-in-Some-clause-pass
gather_pass-requires-in-Some-clause-pass c =
    let line = line_of c.args.gate.now c.args.ring.now in
    (pass_here c.args.gate.now c.args.ring.now c.in-Some.pass (All-head (is_pass line) c.in-Some.pass _ (All-same (is_pass line) _ _ (sym c.in-Some.ensures.items) c.loop-pass.invariant.9))).1

pub loop-pass-preserved : goal.loop-pass-preserved
loop-pass-preserved c =
    let line = line_of c.args.gate.now c.args.ring.now in
    let inv = c.loop-pass.invariant in
    let x = c.in-Some.pass in
    let items = c.in-Some.ensures.items in
    let rest = c.pop_front.new.self.items in
    let G = c.loop-pass.gate_end.passes in
    let R = c.loop-pass.ring_end.back_passes in (
      c.gather_pass.ensures.gate,
      ap (λ (xs : List PassReadings). xs ++ gate_passes rest) c.gather_pass.ensures.passes ∙ (append_assoc G (x.gate.known ∷ []) (gate_passes rest) ∙ (ap (λ (xs : List RuledPass). G ++ gate_passes xs) (sym items) ∙ inv.1)),
      c.gather_pass.ensures.lanes ∙ inv.2,
      c.gather_pass.ensures.number ∙ inv.3,
      c.gather_pass-in-Some.ensures.end,
      ap (λ (xs : List (RingPassRecord QueuedJob)). xs ++ ring_passes rest) c.gather_pass-in-Some.ensures.passes ∙ (append_assoc R (x.ring.known ∷ []) (ring_passes rest) ∙ (ap (λ (xs : List RuledPass). R ++ ring_passes xs) (sym items) ∙ inv.5)),
      c.gather_pass-in-Some.ensures.lanes ∙ inv.6,
      c.gather_pass-in-Some.ensures.dealt.0 ∙ inv.7,
      c.gather_pass-in-Some.ensures.dealt.1 ∙ inv.8,
      All-rest (is_pass line) x rest _ items inv.9,
    )
