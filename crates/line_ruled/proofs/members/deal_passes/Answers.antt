use Rattle.std.proofs.Common.{◌≡◌, ℕ, suc, ◌+◌, ◌-◌, ◌∷◌, ◌++◌, [], List, map, ap, ◌∙◌, arith}
use Rattle.std.proofs.lemmas.List.{map-append}
use Rattle.std.proofs.lemmas.List.Elements.{All-push, All-same}
use Rattle.line_gate.specs.Record.{passes_from}
use Rattle.line_ring.specs.Record.{fresh_pass as fresh_ring_pass}
use Rattle.job_queue.specs.declared.record.PassRecord.{PassRecord}
use Rattle.job_queue.specs.Record.{fresh_passes}
use Rattle.line_ruled.specs.Inner.Join.{joined_pass}
use Rattle.line_ruled.specs.Inner.Handle.{line_of, is_pass, pass_record}
use Rattle.line_ruled.proofs.JoinLemmas.{fresh_joined_pass}
use Rattle.line_ruled.proofs.DealtLemmas.{next_pass, is_of}
use Rattle.line_ruled.proofs.members.deal_passes.Goals as goal

pub loop-preserved : goal.loop-preserved
loop-preserved c =
    let i = c.loop.counter in
    let inv = c.loop.invariant in
    let one_more : c.args.count - i ≡ suc (c.args.count - (i + 1)) = omega (arith, c.loop-test.true) in
    let lanes = inv.1 ∙ ap (passes_from i) one_more in
    let at_gate = next_pass i (c.args.count - (i + 1)) _ _ _ lanes c.deal_pass-at_gate.ensures.dealt in
    let in_ring = c.deal_pass-in_ring.ensures.fresh ∙ ap fresh_ring_pass inv.4 in
    let line = line_of c.args.gate.now c.args.ring.now in
    let next : suc i ≡ i + 1 = omega arith in (
      c.deal_pass-at_gate.ensures.gates.0,
      at_gate.1,
      c.deal_pass-at_gate.ensures.lanes ∙ inv.2,
      c.deal_pass-in_ring.ensures.end,
      c.deal_pass-in_ring.ensures.passes ∙ ap (λ (n : ℕ). n + 1) inv.4,
      c.deal_pass-in_ring.ensures.lanes ∙ inv.5,
      c.deal_pass-in_ring.ensures.back.0 ∙ inv.6,
      c.deal_pass-in_ring.ensures.back.1 ∙ inv.7,
      All-same (is_pass line) _ _ c.push_reserved.ensures.items (All-push (is_pass line) _ _ inv.8 (is_of c.args.gate.now c.args.ring.now _ _ c.deal_pass-at_gate.ensures.gates.1 c.deal_pass-in_ring.ensures.pass)),
      ap (map pass_record) c.push_reserved.ensures.items ∙ (map-append pass_record _ _ ∙ (ap (λ (rs : List PassRecord). rs ++ joined_pass c.deal_pass-at_gate.result.known c.deal_pass-in_ring.result.known ∷ []) inv.9
          ∙ (ap (λ (r : PassRecord). fresh_passes i ++ r ∷ []) (fresh_joined_pass i _ _ at_gate.0 in_ring) ∙ ap fresh_passes next))),
      omega (arith, c.push_reserved.ensures.len, inv.10),
      omega (arith, c.push_reserved.ensures.capacity, inv.11),
    )
