-- The queue of the line loses the slot, and the other queues rest.
use Rattle.std.proofs.Common.{◌++◌, slice_set, sym, subst, rules}
use Rattle.std.proofs.lemmas.List.{get_or-set_same}
use Rattle.sched_jobs.specs.declared.queues.Queue.{Queue as QueueData}
use Rattle.sched_jobs.specs.Queues.{IsQueue}
use Rattle.sched_jobs.proofs.LineLemmas.{as_before, has_item, left}
use Rattle.sched_jobs.proofs.lines.leave_line.Goals as goal

pub remove-requires : goal.remove-requires
remove-requires c =
    ((c.requires.lines.1.0.each c.args.at c.requires.at).slots, has_item c.args.nodes.now c.args.queues.now c.requires.lines.0 c.args.at c.args.slot c.requires.at c.requires.lines.1.0 c.requires.lines.1.1)

pub returns-clause-lines : goal.returns-clause-lines
returns-clause-lines c = λ line are was.
    let here = are.each c.args.at c.requires.at in
    left c.args.nodes.now c.remove.new.nodes c.args.queues.now (slice_set c.args.queues.now c.args.at c.remove.new.queue) line c.args.at c.args.slot c.requires.at (search rules) (search rules)
    (as_before c.args.queues.now c.args.at c.remove.new.queue) are was
    (λ before after is. subst (λ (x : QueueData). IsQueue c.remove.new.nodes x (before ++ after)) (sym (get_or-set_same c.args.queues.now c.args.at c.remove.new.queue (record { root = 0; front = 0 }) c.requires.at)) (c.remove.ensures.queue before after is))
    (c.remove.ensures.others here.slots (has_item c.args.nodes.now c.args.queues.now line c.args.at c.args.slot c.requires.at are was))
