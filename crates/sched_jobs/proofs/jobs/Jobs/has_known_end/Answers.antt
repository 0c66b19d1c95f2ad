-- The counter is not 0 if and only if a running job has a known end.
use Rattle.std.proofs.Common.{refl, arith}
use Rattle.std.proofs.lemmas.Bool.{false≢true}
use Rattle.sched_jobs.proofs.SumLemmas.{known_ends, known_none}
use Rattle.sched_jobs.proofs.jobs.Jobs.has_known_end.Goals as goal

pub returns-then-self-eq0 : goal.returns-then-self-eq0
returns-then-self-eq0 c = λ w shows. (
  λ yes. absurd (false≢true yes),
  λ has. absurd (known_none w.place c.args.self.now.next c.args.self.now.free c.args.self.now.slots.items c.args.self.now.lines.nodes.items c.args.self.now.running c.args.self.now.asked c.args.self.now.timed
      shows.1 shows.3 c.if-self-eq0.true has.0 has.1 has.2 has.3),
)

pub returns : goal.returns
returns c = λ w shows. (
  λ _. known_ends w.place c.args.self.now.next c.args.self.now.free c.args.self.now.slots.items c.args.self.now.lines.nodes.items c.args.self.now.running c.args.self.now.asked c.args.self.now.timed
      shows.1 shows.3 (omega (arith, c.if-self-eq0.false)),
  λ _. refl,
)
