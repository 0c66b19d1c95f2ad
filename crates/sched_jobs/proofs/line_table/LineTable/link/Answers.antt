-- The queues rest, since both slots are in none.
use Rattle.std.proofs.Common.{◌<◌, arith}
use Rattle.sched_jobs.specs.Lines.{slots_of}
use Rattle.sched_jobs.proofs.line_table.LineTable.link.Goals as goal

pub returns-then-next-len-clause-lines : goal.returns-then-next-len-clause-lines
returns-then-next-len-clause-lines c = λ line shown none _. c.set_key.ensures.lines line shown none

pub returns-clause-lines : goal.returns-clause-lines
returns-clause-lines c = λ line shown none next_none.
    let inside : c.args.next < slots_of c.args.self.now = omega (arith, c.set_key.ensures.slots, c.len.ensures, c.if-next-len.false) in
    c.set_rank.ensures.lines line (c.set_key.ensures.lines line shown none) (next_none inside)
