use Rattle.std.proofs.Common.{arith}
use Rattle.dispatcher.specs.Members.{IsEndOf}
use Rattle.dispatcher_threads.proofs.SlotLemmas.{all_pushed, longer}
use Rattle.dispatcher_threads.proofs.slots.workers_from_slots.Goals as goal

pub loop-slot-preserved : goal.loop-slot-preserved
loop-slot-preserved g c =
    let inv = c.loop-slot.invariant in
    let old = c.loop-slot.ends.items in
    let new = c.push_reserved.new.self.items in
    let end = c.into_end.result in
    let pushed = c.push_reserved.ensures.items in (
      all_pushed (IsEndOf g.J.Naming.shop) old new end pushed inv.0 c.into_end.ensures.of_shop,
      omega (arith, inv.1, longer old new end pushed, longer c.pop.new.self.items c.loop-slot.worker_slots.items c.in-Some.slot c.in-Some.ensures.items),
      omega (arith, inv.2, c.push_reserved.ensures.capacity),
    )
