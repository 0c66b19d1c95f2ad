use Rattle.std.proofs.Common.{◌≡◌, ℕ, suc, ◌+◌, ◌-◌, ◌∷◌, ◌++◌, [], List, map, None, sym, refl, ap, ◌∙◌, arith}
use Rattle.std.proofs.lemmas.List.{map-append}
use Rattle.std.proofs.lemmas.List.Elements.{All-push, All-same}
use Rattle.atomic_table.specs.Seated.{TableId}
use Rattle.job_queue.specs.declared.record.LaneRecord.{LaneRecord}
use Rattle.job_queue.specs.Record.{fresh_lane, fresh_lanes}
use Rattle.locked_peers.specs.InnerLine.View.{view, first_view, lanes_from, lane_view, without_lane, lane_alone}
use Rattle.locked_peers.specs.InnerLine.Step.{Sat, lane_in}
use Rattle.locked_peers.specs.InnerLine.Handle.{sizes_of, line_id, is_lane, lane_record}
use Rattle.locked_peers.proofs.LineHandleLemmas.{lane_seat}
use Rattle.locked_peers.proofs.line_members.deal_lanes.Goals as goal

pub invariant_of-push_reserved : goal.invariant_of-push_reserved
invariant_of-push_reserved c =
    let first = first_view (sizes_of c.args.lock.now) in
    let i = c.loop-number.number in
    let one_more : c.args.count - i ≡ suc (c.args.count - (i + 1)) = omega arith in
    let is : c.deal_lane-seat.result.me ≡ (lane_view first.about (fresh_lane i), []) =
    c.deal_lane-seat.ensures.dealt ∙ (ap (λ (m : Sat). (lane_alone m.0, [])) c.loop-number.invariant.1 ∙ ap (λ (n : ℕ). (lane_alone (view first.about (lanes_from i n) first.passes first.closers None), [])) one_more) in
    record { known = lane_seat _ first.about (fresh_lane i) i 0 is refl refl (refl, refl) (omega (arith, c.loop-number-test.true, c.requires.count)) }

pub loop-number-preserved : goal.loop-number-preserved
loop-number-preserved c =
    let first = first_view (sizes_of c.args.lock.now) in
    let i = c.loop-number.number in
    let inv = c.loop-number.invariant in
    let one_more : c.args.count - i ≡ suc (c.args.count - (i + 1)) = omega arith in
    let all = λ (n : ℕ). view first.about (lanes_from i n) first.passes first.closers None in
    let left = c.deal_lane-seat.ensures.left ∙ (ap (λ (m : Sat). (without_lane m.0, [])) inv.1 ∙ ap (λ (n : ℕ). (without_lane (all n), [])) one_more) in
    let dealt : c.deal_lane-seat.result.me ≡ (lane_view first.about (fresh_lane i), []) = c.deal_lane-seat.ensures.dealt ∙ (ap (λ (m : Sat). (lane_alone m.0, [])) inv.1 ∙ ap (λ (n : ℕ). (lane_alone (all n), [])) one_more) in
    let table : c.deal_lane-seat.result.table_id ≡ c.args.lock.now.cell.table.shared.table_id = c.deal_lane-seat.ensures.tables.1 in
    let next : suc i ≡ i + 1 = omega arith in (
      c.deal_lane-seat.ensures.tables.0,
      left,
      All-same (is_lane (line_id c.args.lock.now)) _ _ c.push_reserved.ensures.items (All-push (is_lane (line_id c.args.lock.now)) _ _ inv.2 (ap (λ (t : TableId). t ∷ []) (sym table), ap (λ (m : Sat). m.0.about) dealt)),
      ap (map lane_record) c.push_reserved.ensures.items ∙ (map-append lane_record _ _ ∙ (ap (λ (rs : List LaneRecord). rs ++ lane_in c.deal_lane-seat.result.me.0.lanes ∷ []) inv.3 ∙ (ap (λ (m : Sat). fresh_lanes i ++ lane_in m.0.lanes ∷ []) dealt ∙ ap fresh_lanes next))),
      omega (arith, c.push_reserved.ensures.len, inv.4),
      omega (arith, c.push_reserved.ensures.capacity, inv.5),
    )
