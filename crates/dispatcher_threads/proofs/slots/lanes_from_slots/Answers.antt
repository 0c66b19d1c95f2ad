use Rattle.std.proofs.Common.{arith}
use Rattle.dispatcher_threads.specs.InnerEnd.{HasEnded}
use Rattle.dispatcher_threads.proofs.SlotLemmas.{all_pushed, longer}
use Rattle.dispatcher_threads.proofs.slots.lanes_from_slots.Goals as goal

pub loop-slot-preserved : goal.loop-slot-preserved
loop-slot-preserved g c =
    let line = g.L.JobLine in
    let inv = c.loop-slot.invariant in
    let old = c.loop-slot.fed.items in
    let new = c.push_reserved.new.self.items in
    let one = c.into_end.result in
    let pushed = c.push_reserved.ensures.items in (
      all_pushed (λ f. line.is_lane g.J.Naming.shop.line f.0) old new one pushed inv.0 c.into_end.ensures.lane,
      all_pushed (λ f. HasEnded g.J.Naming.jobs (line.lane_record f.0) f.1) old new one pushed inv.1 c.into_end.ensures.end,
      omega (arith, inv.2, longer old new one pushed, longer c.pop.new.self.items c.loop-slot.lane_slots.items c.in-Some.slot c.in-Some.ensures.items),
      omega (arith, inv.3, c.push_reserved.ensures.capacity),
    )
