-- All queues are empty.
use Rattle.std.proofs.Common.{◌*◌, rules}
use Rattle.fixed_vec.proofs.Spending.{first, others, both}
use Rattle.sched_jobs.proofs.AlikeLemmas.{key_unused, rank_unused, shown_empty}
use Rattle.sched_jobs.proofs.line_table.LineTable.new.Goals as goal

pub returns-clause-keys : goal.returns-clause-keys
returns-clause-keys c = λ u. key_unused c.in_ok-nodes.nodes.items c.args.capacity u c.in_ok-nodes.ensures.items

pub returns-clause-ranks : goal.returns-clause-ranks
returns-clause-ranks c = λ u. rank_unused c.in_ok-nodes.nodes.items c.args.capacity u c.in_ok-nodes.ensures.items

pub returns-clause-lines : goal.returns-clause-lines
returns-clause-lines c =
    shown_empty c.in_ok-nodes.nodes.items c.in_ok-queues.queues.items c.in_ok-counts.counts.items c.new.result c.args.capacity (search rules) c.requires
    c.in_ok-queues.ensures.items (c.new.ensures c.in_ok-nodes.nodes.items) (search rules) c.in_ok-counts.ensures.items (search rules)

pub returns-in_err-queues-clause-enough : goal.returns-in_err-queues-clause-enough
returns-in_err-queues-clause-enough c = λ h.
    let none = c.in_err-queues.ensures.enough (first 168 8 _ (others (5 * c.args.capacity) 176 _ _ c.in_ok-nodes.ensures.spends h)) in
    absurd (cc)

pub returns-in_err-counts-clause-enough : goal.returns-in_err-counts-clause-enough
returns-in_err-counts-clause-enough c = λ h.
    let none = c.in_err-counts.ensures.enough (others 168 8 _ _ c.in_ok-queues.ensures.spends (others (5 * c.args.capacity) 176 _ _ c.in_ok-nodes.ensures.spends h)) in
    absurd (cc)

pub returns-clause-spends : goal.returns-clause-spends
returns-clause-spends c = both (5 * c.args.capacity) 176 _ _ _ c.in_ok-nodes.ensures.spends (both 168 8 _ _ _ c.in_ok-queues.ensures.spends c.in_ok-counts.ensures.spends)
