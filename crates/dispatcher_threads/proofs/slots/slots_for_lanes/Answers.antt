use Rattle.std.proofs.Common.{arith}
use Rattle.dispatcher_threads.specs.InnerEnd.{HasEnded}
use Rattle.dispatcher_threads.proofs.SlotLemmas.{all_pushed, longer}
use Rattle.dispatcher_threads.proofs.slots.slots_for_lanes.Goals as goal

pub loop-slot-preserved-in-Err : goal.loop-slot-preserved-in-Err
loop-slot-preserved-in-Err g c =
    let line = g.L.JobLine in
    let inv = c.loop-slot.invariant in
    let old = c.loop-slot.fed.items in
    let new = c.push_reserved.new.self.items in
    let one = c.into_end.result in
    let pushed = c.push_reserved.ensures.items in (
      all_pushed (λ f. line.is_lane g.J.Naming.shop.line f.0) old new one pushed inv.0 c.into_end.ensures.lane,
      all_pushed (λ f. HasEnded g.J.Naming.jobs (line.lane_record f.0) f.1) old new one pushed inv.1 c.into_end.ensures.end,
      omega (arith, inv.2, c.in-Err.ensures.len, longer old new one pushed, c.in-Some.ensures),
      omega (arith, inv.3, c.push_reserved.ensures.capacity),
    )

pub loop-slot-preserved : goal.loop-slot-preserved
loop-slot-preserved g c =
    let inv = c.loop-slot.invariant in
    (inv.0, inv.1, omega (arith, inv.2, c.in_default-push.ensures.len, c.in-Some.ensures), inv.3)
