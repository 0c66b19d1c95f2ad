-- The head starts, or another job, or none.
use Rattle.std.proofs.Common.{inl, inr, sym, ◌∙◌}
use Rattle.sched_law.specs.Policy as policy
use Rattle.sched_core.proofs.PickLemmas.{head_blocked, moved_passes, pick_starts, pick_waits}
use Rattle.sched_core.proofs.CoreLemmas.{waiting_fits}
use Rattle.sched_core.proofs.scheduler.Core.decide.Goals as goal

pub returns-in_default-clause-picks : goal.returns-in_default-clause-picks
returns-in_default-clause-picks c = λ w k. (w, policy.idles (c.in_default.ensures.none w k), k)

pub place-requires : goal.place-requires
place-requires c = (c.in-Some.ensures.head c.requires.0 c.requires.1).inside

pub returns-in_default-place : goal.returns-in_default-place
returns-in_default-place c =
    let is = c.in-Some.ensures.head c.requires.0 c.requires.1 in
    absurd (c.in_default-place.not-Waiting is.head (c.place.ensures ∙ is.at))

pub first-requires : goal.first-requires
first-requires c = waiting_fits c.requires.0 c.args.self.now c.requires.1 c.in-Some.head c.in-Waiting.wait (sym c.place.ensures ∙ c.in-Waiting.is)

pub returns-in-Some-first-clause-picks : goal.returns-in-Some-first-clause-picks
returns-in-Some-first-clause-picks c = λ w k.
    let first = c.in-Some-first.ensures.first w k.machine in (
      w,
      inl (pick_starts w c.args.self.now.jobs c.in-Some.head (c.in-Some.ensures.head w k) c.in-Waiting.wait (sym c.place.ensures ∙ c.in-Waiting.is) c.in-Some-first.block first.0 first.1 first.2),
      k,
    )

pub passing-requires : goal.passing-requires
passing-requires c =
    let head = c.in-Some.ensures.head c.requires.0 c.requires.1 in
    let none = head_blocked c.requires.0 c.args.self.now.jobs c.in-Some.head head c.in-Waiting.wait (sym c.place.ensures ∙ c.in-Waiting.is) (c.in_default-first.ensures.none c.requires.0 c.requires.1.machine) in
    let prepared = c.prepare.ensures.prepares c.requires.0 head c.requires.1 none in
    (prepared.0, prepared.2)

pub returns-in_default-passing-clause-picks : goal.returns-in_default-passing-clause-picks
returns-in_default-passing-clause-picks c = λ w k.
    let head = c.in-Some.ensures.head w k in
    let none = head_blocked w c.args.self.now.jobs c.in-Some.head head c.in-Waiting.wait (sym c.place.ensures ∙ c.in-Waiting.is) (c.in_default-first.ensures.none w k.machine) in
    let prepared = c.prepare.ensures.prepares w head k none in (
      prepared.0,
      pick_waits w prepared.0 c.args.self.now.jobs c.in-Some.head head none prepared.1 (c.in_default-passing.ensures.none prepared.0 prepared.2),
      prepared.2,
    )

pub returns-clause-picks : goal.returns-clause-picks
returns-clause-picks c = λ w k.
    let head = c.in-Some.ensures.head w k in
    let none = head_blocked w c.args.self.now.jobs c.in-Some.head head c.in-Waiting.wait (sym c.place.ensures ∙ c.in-Waiting.is) (c.in_default-first.ensures.none w k.machine) in
    let prepared = c.prepare.ensures.prepares w head k none in (
      prepared.0,
      inr (moved_passes w prepared.0 c.args.self.now.jobs c.prepare.new.self.jobs c.in-Some.head c.in-Some-passing.it c.prepare.ensures.jobs head none prepared.1
          (c.in-Some-passing.ensures.first prepared.0 prepared.2)),
      prepared.2,
    )
