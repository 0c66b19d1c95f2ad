use Rattle.std.proofs.Common.{◌≡◌, ◌∷◌, ◌++◌, [], List, map, None, length-append, append_assoc, sym, refl, ap, ◌∙◌, subst, arith}
use Rattle.std.proofs.lemmas.List.{append-nil}
use Rattle.std.proofs.lemmas.List.Elements.{All-rest}
use Rattle.job_queue.specs.declared.record.PassRecord.{PassRecord}
use Rattle.locked_peers.specs.declared.line_view.CloserRecord.{CloserRecord}
use Rattle.locked_peers.specs.InnerLine.View.{view, joined}
use Rattle.locked_peers.specs.InnerLine.Step.{Sat, IsIdle, lane_in}
use Rattle.locked_peers.specs.InnerLine.Handle.{line_id, is_lane, lane_record}
use Rattle.locked_peers.proofs.line_members.gather_lanes.Goals as goal

pub loop-lane-preserved : goal.loop-lane-preserved
loop-lane-preserved c =
    let a = c.args.seat.now.me.0 in
    let inv = c.loop-lane.invariant in
    let L = c.loop-lane.seat.me.0.lanes in
    let lane = c.in-Some.lane in
    let r = lane_in lane.seat.me.0.lanes in
    let is : c.gather.new.seat.me ≡ (view a.about (L ++ r ∷ []) a.passes a.closers None, []) =
    c.gather.ensures.both ∙ (ap (λ (m : Sat). (joined m.0 lane.seat.me.0, [])) inv.2 ∙ (ap (λ (m : Sat). (joined (view a.about L a.passes a.closers None) m.0, [])) lane.known.alone ∙ (ap (λ (ps : List PassRecord). (view a.about (L ++ r ∷ []) ps (a.closers ++ []) None, [])) (append-nil a.passes) ∙ ap (λ (cs : List CloserRecord). (view a.about (L ++ r ∷ []) a.passes cs None, [])) (append-nil a.closers)))) in
    let items = c.in-Some.ensures.items in
    let rest = c.pop_front.new.self.items in (
      c.gather.ensures.table,
      subst IsIdle (sym is) (refl, refl, omega (arith, length-append L (r ∷ []))),
      subst (λ (m : Sat). m ≡ (view a.about m.0.lanes a.passes a.closers None, [])) (sym is) refl,
      ap (λ (m : Sat). m.0.lanes ++ map lane_record rest) is ∙ (append_assoc L (r ∷ []) (map lane_record rest) ∙ (ap (λ ls. L ++ map lane_record ls) (sym items) ∙ inv.3)),
      All-rest (is_lane (line_id c.args.lock.now)) lane rest _ items inv.4,
    )
