use Rattle.std.proofs.Common.{arith}
use Rattle.dispatcher.specs.Members.{IsEndOf}
use Rattle.dispatcher_threads.proofs.SlotLemmas.{all_pushed, longer}
use Rattle.dispatcher_threads.proofs.slots.slots_for_workers.Goals as goal

pub loop-slot-preserved-in-Err : goal.loop-slot-preserved-in-Err
loop-slot-preserved-in-Err g c =
    let inv = c.loop-slot.invariant in
    let old = c.loop-slot.ends.items in
    let new = c.push_reserved.new.self.items in
    let end = c.into_end.result in
    let pushed = c.push_reserved.ensures.items in (
      all_pushed (IsEndOf g.J.Naming.shop) old new end pushed inv.0 c.into_end.ensures.of_shop,
      omega (arith, inv.1, c.in-Err.ensures.len, longer old new end pushed, c.in-Some.ensures),
      omega (arith, inv.2, c.push_reserved.ensures.capacity),
    )

pub loop-slot-preserved : goal.loop-slot-preserved
loop-slot-preserved g c =
    let inv = c.loop-slot.invariant in
    (inv.0, omega (arith, inv.1, c.in_default-push.ensures.len, c.in-Some.ensures), inv.2)
