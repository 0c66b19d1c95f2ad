-- The queue of the line gets the slot, and the class has one more that waits.
use Rattle.std.proofs.Common.{◌≡◌, ℕ, List, length, ap, arith, rules}
use Rattle.sched_jobs.specs.Lines.{IsOfClass, count_in}
use Rattle.sched_jobs.proofs.NumberLemmas.{count_few}
use Rattle.sched_jobs.proofs.TableLemmas.{joined_done}
use Rattle.sched_jobs.proofs.line_table.LineTable.join.Goals as goal

pub returns-clause-lines : goal.returns-clause-lines
returns-clause-lines c = λ line may.
    joined_done c.args.self.now c.deref_mut.result.now c.join_line.new.nodes c.deref_mut-2.result.now c.join_line.new.queues c.deref_mut-3.result.now c.count_one.new.counts
    line c.args.job.now.class c.args.job.now.dim c.args.slot c.args.key c.line_number-at.result c.requires.dim c.requires.slot may
    c.deref_mut.ensures.value c.deref_mut-2.ensures.value c.deref_mut-3.ensures.value (search rules) (search rules) (search rules)
    c.line_number-at.ensures (c.join_line.ensures.lines line) c.count_one.ensures.here c.count_one.ensures.others

pub count_one-requires-clause-few : goal.count_one-requires-clause-few
count_one-requires-clause-few c =
    let shown = c.requires.lines.1.shown in
    let few = count_few (IsOfClass c.requires.lines.0 c.args.job.now.class) (length c.args.self.now.nodes.items) (count_in c.args.self.now.counts.items c.args.job.now.class) (shown.counted c.args.job.now.class c.requires.class) in
    let limit = shown.lines.limit in
    let same : count_in c.deref_mut-3.result.now c.args.job.now.class ≡ count_in c.args.self.now.counts.items c.args.job.now.class = ap (λ (xs : List ℕ). count_in xs c.args.job.now.class) c.deref_mut-3.ensures.value in
    omega (arith, few, limit, same)
