-- The queue of the line loses the slot, and the class one that waits.
use Rattle.std.proofs.Common.{◌≡◌, ◌+◌, ℕ, List, length, ap, arith, rules}
use Rattle.sched_jobs.specs.Lines.{IsOfClass, count_in}
use Rattle.sched_jobs.proofs.AlikeLemmas.{slot_inside}
use Rattle.sched_jobs.proofs.NumberLemmas.{count_without}
use Rattle.sched_jobs.proofs.TableLemmas.{left_done}
use Rattle.sched_jobs.proofs.line_table.LineTable.leave.Goals as goal

pub returns-clause-lines : goal.returns-clause-lines
returns-clause-lines c = λ line shown was.
    left_done c.args.self.now c.deref_mut.result.now c.leave_line.new.nodes c.deref_mut-2.result.now c.leave_line.new.queues c.deref_mut-3.result.now c.discount_one.new.counts
    line c.args.job.now.class c.args.job.now.dim c.args.slot 0 c.line_number-at.result c.requires.dim
    (slot_inside c.args.self.now.nodes.items c.args.self.now.queues.items c.args.self.now.counts.items line c.args.job.now.class c.args.slot c.requires.class shown (c.args.job.now.dim, c.requires.dim, was))
    shown was
    c.deref_mut.ensures.value c.deref_mut-2.ensures.value c.deref_mut-3.ensures.value (search rules) (search rules) (search rules)
    c.line_number-at.ensures (c.leave_line.ensures.lines line) c.discount_one.ensures.here c.discount_one.ensures.others

pub discount_one-requires-clause-some : goal.discount_one-requires-clause-some
discount_one-requires-clause-some c =
    let line = c.requires.lines.0 in
    let shown = c.requires.lines.1.0 in
    let mine : IsOfClass line c.args.job.now.class c.args.slot = (c.args.job.now.dim, c.requires.dim, c.requires.lines.1.1) in
    let inside = slot_inside c.args.self.now.nodes.items c.args.self.now.queues.items c.args.self.now.counts.items line c.args.job.now.class c.args.slot c.requires.class shown mine in
    let less = count_without (IsOfClass line c.args.job.now.class) c.args.slot (length c.args.self.now.nodes.items) (count_in c.args.self.now.counts.items c.args.job.now.class) inside mine
    (shown.counted c.args.job.now.class c.requires.class) in
    let total : count_in c.args.self.now.counts.items c.args.job.now.class ≡ less.0 + 1 = less.1 in
    let same : count_in c.deref_mut-3.result.now c.args.job.now.class ≡ count_in c.args.self.now.counts.items c.args.job.now.class = ap (λ (xs : List ℕ). count_in xs c.args.job.now.class) c.deref_mut-3.ensures.value in
    omega (arith, total, same)
