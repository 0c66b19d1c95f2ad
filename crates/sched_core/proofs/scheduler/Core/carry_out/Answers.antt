-- The head starts, or it is passed and another job starts.
use Rattle.std.proofs.Common.{inl, inr, Some, sym, ◌∙◌, subst}
use Rattle.sched_law.specs.State.{start}
use Rattle.sched_law.specs.Policy.{Decides}
use Rattle.sched_jobs.specs.Shows.{place_of}
use Rattle.sched_core.specs.Shows.{ShowsCore}
use Rattle.sched_core.proofs.JobLemmas.{waiting_present}
use Rattle.sched_core.proofs.PickLemmas.{counted, pass_decides, pass_sized, pass_vacant, passed, start_decides, start_sized, start_vacant, started}
use Rattle.sched_core.proofs.scheduler.Core.carry_out.Goals as goal

pub launch-requires-2-clause-shows : goal.launch-requires-2-clause-shows
launch-requires-2-clause-shows c =
    let w = c.requires.0 in
    let v = c.requires.1.0 in
    let k = c.requires.1.1.1 in
    elim c.requires.1.1.0 [
      | inl p ↦ absurd (c.if-it.false p.alone)
      | inr p ↦ (counted w v c.args.self.now c.args.it k p, c.count.ensures.shows v p.slot.head k p.slot.at)
    ]

pub returns-then-it-clause-decides : goal.returns-then-it-clause-decides
returns-then-it-clause-decides c = λ w v picks k.
    let core = c.args.self.now in
    let it = c.args.it in
    elim picks [
      | inl p ↦
          let stays = c.launch.ensures.keeps it.slot (waiting_present (place_of core.jobs it.slot) p.slot.head p.slot.at) in (
            started w v core it k p,
            subst (λ a. Decides w (Some a) (started w v core it k p)) (sym stays.1) (start_decides w v core it k p),
            c.launch.ensures.shows v p.slot.head k p.slot.at (start_sized w v core it k p) (start_vacant w v core it k p),
          )
      | inr p ↦ absurd (p.other c.if-it.true)
    ]

pub returns-clause-decides : goal.returns-clause-decides
returns-clause-decides c = λ w v picks k.
    let core = c.args.self.now in
    let it = c.args.it in
    elim picks [
      | inl p ↦ absurd (c.if-it.false p.alone)
      | inr p ↦
          let on = c.count.ensures.others it.slot (λ same. p.other (sym same)) in
          let at = on.0 ∙ p.passing.at in
          let stays = c.launch-2.ensures.keeps it.slot (waiting_present (place_of c.count.new.self.jobs it.slot) p.passing.wait at) in (
            passed w v core it k p,
            subst (λ a. Decides w (Some a) (passed w v core it k p)) (sym (stays.1 ∙ on.1)) (pass_decides w v core it k p),
            subst (λ a. ShowsCore (start a p.passing.wait.job it.block (counted w v core it k p)) c.launch-2.new.self) on.1
                (c.launch-2.ensures.shows (counted w v core it k p) p.passing.wait (c.count.ensures.shows v p.slot.head k p.slot.at) at (pass_sized w v core it k p) (pass_vacant w v core it k p)),
          )
    ]
