-- The queue of the line gets the slot, and the other queues rest.
use Rattle.std.proofs.Common.{◌++◌, [], ◌∷◌, slice_set, sym, subst, rules}
use Rattle.std.proofs.lemmas.List.{get_or-set_same}
use Rattle.sched_jobs.specs.declared.queues.Queue.{Queue as QueueData}
use Rattle.sched_jobs.specs.Queues.{IsQueue}
use Rattle.sched_jobs.proofs.LineLemmas.{as_before, can_append, joined}
use Rattle.sched_jobs.proofs.lines.join_line.Goals as goal

pub push-requires-clause-queue : goal.push-requires-clause-queue
push-requires-clause-queue c =
    ((c.requires.lines.1.lines.each c.args.at c.requires.at).slots, can_append c.args.nodes.now c.args.queues.now c.requires.lines.0 c.args.at c.args.slot c.requires.at c.args.key c.requires.lines.1)

pub returns-clause-lines : goal.returns-clause-lines
returns-clause-lines c = λ line can.
    let here = can.lines.each c.args.at c.requires.at in
    let may = can_append c.args.nodes.now c.args.queues.now line c.args.at c.args.slot c.requires.at c.args.key can in
    joined c.args.nodes.now c.push.new.nodes c.args.queues.now (slice_set c.args.queues.now c.args.at c.push.new.queue) line c.args.at c.args.slot c.requires.at (search rules) (search rules)
    (as_before c.args.queues.now c.args.at c.push.new.queue) c.args.key can
    (subst (λ (x : QueueData). IsQueue c.push.new.nodes x (here.slots ++ c.args.slot ∷ [])) (sym (get_or-set_same c.args.queues.now c.args.at c.push.new.queue (record { root = 0; front = 0 }) c.requires.at)) (c.push.ensures.queue here.slots may))
    (c.push.ensures.others here.slots may)
