-- Each slot is appended to those before it.
use Rattle.std.proofs.Common.{[]}
use Rattle.sched_jobs.proofs.FillLemmas.{can_fill, filled_more}
use Rattle.sched_jobs.proofs.queues.tests.filled.Goals as goal

pub loop-slot-init : goal.loop-slot-init
loop-slot-init c = record {
  slots = [];
  is_queue = c.new-queue.ensures c.args.nodes.now;
  few = λ u h. absurd h;
  keys = λ u h. absurd h;
}

pub push-requires-clause-queue : goal.push-requires-clause-queue
push-requires-clause-queue c =
    let so_far = c.loop-slot.invariant in
    (so_far.slots, can_fill c.loop-slot.nodes c.loop-slot.queue c.loop-slot.slot so_far)

pub loop-slot-preserved : goal.loop-slot-preserved
loop-slot-preserved c =
    let so_far = c.loop-slot.invariant in
    filled_more c.loop-slot.nodes c.push.new.nodes c.loop-slot.queue c.push.new.queue c.loop-slot.slot so_far
    (c.push.ensures.queue so_far.slots (can_fill c.loop-slot.nodes c.loop-slot.queue c.loop-slot.slot so_far))
    c.push.ensures.key c.push.ensures.keys

pub returns : goal.returns
returns c = (c.loop-slot.invariant.slots, c.loop-slot.invariant.is_queue)
