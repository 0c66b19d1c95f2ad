-- A table without a free slot is full.
use Rattle.std.proofs.Common.{◌≤◌, length, arith}
use Rattle.sched_jobs.proofs.ChangeLemmas.{full_has}
use Rattle.sched_jobs.proofs.jobs.Jobs.submit.Goals as goal

pub returns-then-slot-len-clause-full : goal.returns-then-slot-len-clause-full
returns-then-slot-len-clause-full c = λ w shows slot inside.
    let full : length c.args.self.now.slots.items ≤ c.args.self.now.free = omega (arith, c.len.ensures, c.if-slot-len.true) in
    full_has w.place c.args.self.now.next c.args.self.now.free c.args.self.now.slots.items c.args.self.now.lines.nodes.items shows.1 full slot inside
