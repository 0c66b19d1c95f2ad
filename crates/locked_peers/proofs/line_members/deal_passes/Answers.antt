use Rattle.std.proofs.Common.{◌≡◌, ℕ, suc, ◌+◌, ◌-◌, ◌∷◌, ◌++◌, [], List, map, None, sym, ap, ◌∙◌, arith}
use Rattle.std.proofs.lemmas.List.{map-append}
use Rattle.std.proofs.lemmas.List.Elements.{All-push, All-same}
use Rattle.atomic_table.specs.Seated.{TableId}
use Rattle.job_queue.specs.declared.record.PassRecord.{PassRecord}
use Rattle.job_queue.specs.Record.{fresh_pass, fresh_passes}
use Rattle.locked_peers.specs.InnerLine.View.{view, first_view, passes_from, pass_view, without_pass, pass_alone}
use Rattle.locked_peers.specs.InnerLine.Step.{Sat, pass_in}
use Rattle.locked_peers.specs.InnerLine.Handle.{sizes_of, line_id, is_pass, pass_record}
use Rattle.locked_peers.proofs.LineHandleLemmas.{pass_seat}
use Rattle.locked_peers.proofs.line_members.deal_passes.Goals as goal

pub invariant_of-push_reserved : goal.invariant_of-push_reserved
invariant_of-push_reserved c =
    let first = first_view (sizes_of c.args.lock.now) in
    let i = c.loop.counter in
    let one_more : c.args.count - i ≡ suc (c.args.count - (i + 1)) = omega arith in
    let is : c.deal_pass-seat.result.me ≡ (pass_view first.about (fresh_pass i), []) =
    c.deal_pass-seat.ensures.dealt ∙ (ap (λ (m : Sat). (pass_alone m.0, [])) c.loop.invariant.1 ∙ ap (λ (n : ℕ). (pass_alone (view first.about [] (passes_from i n) first.closers None), [])) one_more) in
    record { known = pass_seat _ first.about (fresh_pass i) is }

pub loop-preserved : goal.loop-preserved
loop-preserved c =
    let first = first_view (sizes_of c.args.lock.now) in
    let i = c.loop.counter in
    let inv = c.loop.invariant in
    let one_more : c.args.count - i ≡ suc (c.args.count - (i + 1)) = omega arith in
    let all = λ (n : ℕ). view first.about [] (passes_from i n) first.closers None in
    let left = c.deal_pass-seat.ensures.left ∙ (ap (λ (m : Sat). (without_pass m.0, [])) inv.1 ∙ ap (λ (n : ℕ). (without_pass (all n), [])) one_more) in
    let dealt : c.deal_pass-seat.result.me ≡ (pass_view first.about (fresh_pass i), []) = c.deal_pass-seat.ensures.dealt ∙ (ap (λ (m : Sat). (pass_alone m.0, [])) inv.1 ∙ ap (λ (n : ℕ). (pass_alone (all n), [])) one_more) in
    let table : c.deal_pass-seat.result.table_id ≡ c.args.lock.now.cell.table.shared.table_id = c.deal_pass-seat.ensures.tables.1 in
    let next : suc i ≡ i + 1 = omega arith in (
      c.deal_pass-seat.ensures.tables.0,
      left,
      All-same (is_pass (line_id c.args.lock.now)) _ _ c.push_reserved.ensures.items (All-push (is_pass (line_id c.args.lock.now)) _ _ inv.2 (ap (λ (t : TableId). t ∷ []) (sym table), ap (λ (m : Sat). m.0.about) dealt)),
      ap (map pass_record) c.push_reserved.ensures.items ∙ (map-append pass_record _ _ ∙ (ap (λ (rs : List PassRecord). rs ++ pass_in c.deal_pass-seat.result.me.0.passes ∷ []) inv.3 ∙ (ap (λ (m : Sat). fresh_passes i ++ pass_in m.0.passes ∷ []) dealt ∙ ap fresh_passes next))),
      omega (arith, c.push_reserved.ensures.len, inv.4),
      omega (arith, c.push_reserved.ensures.capacity, inv.5),
    )
