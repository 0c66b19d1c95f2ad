use Rattle.std.proofs.Common.{◌≡◌, ◌∷◌, ◌++◌, [], List, map, None, length-append, append_assoc, sym, refl, ap, ◌∙◌, subst, arith}
use Rattle.std.proofs.lemmas.List.{append-nil}
use Rattle.std.proofs.lemmas.List.Elements.{All-rest}
use Rattle.job_queue.specs.declared.record.LaneRecord.{LaneRecord}
use Rattle.locked_peers.specs.declared.line_view.CloserRecord.{CloserRecord}
use Rattle.locked_peers.specs.InnerLine.View.{view, joined}
use Rattle.locked_peers.specs.InnerLine.Step.{Sat, IsIdle, pass_in}
use Rattle.locked_peers.specs.InnerLine.Handle.{line_id, is_pass, pass_record}
use Rattle.locked_peers.proofs.line_members.gather_passes.Goals as goal

pub loop-pass-preserved : goal.loop-pass-preserved
loop-pass-preserved c =
    let a = c.args.seat.now.me.0 in
    let inv = c.loop-pass.invariant in
    let L = c.loop-pass.seat.me.0.passes in
    let lane = c.in-Some.pass in
    let r = pass_in lane.seat.me.0.passes in
    let is : c.gather.new.seat.me ≡ (view a.about a.lanes (L ++ r ∷ []) a.closers None, []) =
    c.gather.ensures.both ∙ (ap (λ (m : Sat). (joined m.0 lane.seat.me.0, [])) inv.2 ∙ (ap (λ (m : Sat). (joined (view a.about a.lanes L a.closers None) m.0, [])) lane.known ∙ (ap (λ (ls : List LaneRecord). (view a.about ls (L ++ r ∷ []) (a.closers ++ []) None, [])) (append-nil a.lanes) ∙ ap (λ (cs : List CloserRecord). (view a.about a.lanes (L ++ r ∷ []) cs None, [])) (append-nil a.closers)))) in
    let items = c.in-Some.ensures.items in
    let rest = c.pop_front.new.self.items in (
      c.gather.ensures.table,
      subst IsIdle (sym is) (refl, refl, omega (arith, length-append L (r ∷ []))),
      subst (λ (m : Sat). m ≡ (view a.about a.lanes m.0.passes a.closers None, [])) (sym is) refl,
      ap (λ (m : Sat). m.0.passes ++ map pass_record rest) is ∙ (append_assoc L (r ∷ []) (map pass_record rest) ∙ (ap (λ ls. L ++ map pass_record ls) (sym items) ∙ inv.3)),
      All-rest (is_pass (line_id c.args.lock.now)) lane rest _ items inv.4,
    )
