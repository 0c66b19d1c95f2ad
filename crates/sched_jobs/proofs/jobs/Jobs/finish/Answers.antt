-- A running job is present, and in no line.
use Rattle.std.proofs.Common.{◌≡◌, ℕ, ◌<◌, ◌≤◌, List, None, length, refl, sym, ◌∙◌, subst, ap, arith}
use Rattle.sched_law.specs.declared.job.Place.TheVariants.{Absent, Running}
use Rattle.sched_law.specs.State.{set}
use Rattle.sched_jobs.specs.Nodes.{key_of}
use Rattle.sched_jobs.specs.declared.slots.Slot.{Slot}
use Rattle.sched_law.proofs.SetLemmas.{absent_waits}
use Rattle.sched_jobs.specs.Slots.{IsPresent, generation_in, line_of, place_in}
use Rattle.sched_jobs.proofs.SlotLemmas.{place_here}
use Rattle.sched_jobs.proofs.ShowLemmas.{free_line, set_same, waiting_changed}
use Rattle.sched_jobs.specs.Sums.{ShowsRunning, one_known, one_runs, one_timed, used_by}
use Rattle.sched_jobs.proofs.SumLemmas.{asked_some, running_moved, running_some, timed_some}
use Rattle.sched_jobs.proofs.jobs.Jobs.finish.Goals as goal

pub clear-requires-clause-job : goal.clear-requires-clause-job
clear-requires-clause-job c = subst IsPresent (sym c.requires.job.1) tt

pub returns-clause-shows : goal.returns-clause-shows
returns-clause-shows c = λ w shows.
    let none = ap line_of c.requires.job.1 in
    let at : place_in c.args.self.now.slots.items c.args.slot ≡ Running c.in-Running.ended =
    sym (sym c.in-Running.is ∙ c.place_at.ensures ∙ ap (λ (xs : List Slot). place_in xs c.args.slot) c.deref.ensures.value) in
    let inside : c.args.slot < length c.args.self.now.slots.items = c.requires.inside in
    let some : 1 ≤ c.args.self.now.running = running_some w.place c.args.self.now.next c.args.self.now.slots.items c.args.self.now.running c.args.self.now.asked c.args.self.now.timed shows.3 c.args.slot c.in-Running.ended inside at in
    let enough : c.in-Running.ended.job.processors ≤ c.args.self.now.asked = asked_some w.place c.args.self.now.next c.args.self.now.slots.items c.args.self.now.running c.args.self.now.asked c.args.self.now.timed shows.3 c.args.slot c.in-Running.ended inside at in
    let known : one_known c.in-Running.ended.end ≤ c.args.self.now.timed = timed_some w.place c.args.self.now.next c.args.self.now.slots.items c.args.self.now.running c.args.self.now.asked c.args.self.now.timed shows.3 c.args.slot c.in-Running.ended inside at in (
      shows.0 ∙ sym c.clear.ensures.next,
      c.clear.ensures.slots w.place shows.1,
      waiting_changed c.args.self.now.slots.items c.clear.new.self.slots.items c.args.self.now.lines c.clear.new.self.lines c.args.slot (generation_in c.args.self.now.slots.items c.args.slot) Absent shows.2
          c.clear.ensures.put c.clear.ensures.count
          (set_same c.args.self.now.slots.items c.clear.new.self.lines (λ u. line_of (place_in c.args.self.now.slots.items u)) c.args.slot None
          (c.clear.ensures.lines (λ u. line_of (place_in c.args.self.now.slots.items u)) shows.2.shown none
          (free_line w.place c.args.self.now.next c.args.self.now.free c.args.self.now.slots.items c.args.self.now.lines.nodes.items shows.1)) none)
          c.clear.ensures.ranks (λ wait is. absurd (absent_waits is)),
      subst (λ (n : ℕ). ShowsRunning (set w.place (key_of c.args.self.now.lines.nodes.items c.args.slot) Absent) n c.clear.new.self.slots.items c.clear.new.self.running c.clear.new.self.asked c.clear.new.self.timed) (sym c.clear.ensures.next)
          (running_moved w.place c.args.self.now.next c.args.self.now.slots.items c.args.self.now.running c.args.self.now.asked c.args.self.now.timed shows.3 c.clear.new.self.slots.items c.clear.new.self.running
          c.clear.new.self.asked c.clear.new.self.timed c.args.slot (generation_in c.args.self.now.slots.items c.args.slot) Absent c.clear.ensures.put (omega arith) c.args.self.now.free c.args.self.now.lines.nodes.items shows.1
          (subst IsPresent (sym c.requires.job.1) tt)
          (let one : one_runs (place_in c.args.self.now.slots.items c.args.slot) ≡ 1 = ap one_runs c.requires.job.1 in omega (arith, one, c.clear.ensures.running, some))
          (let mine : used_by (place_in c.args.self.now.slots.items c.args.slot) ≡ c.in-Running.ended.job.processors = ap used_by at in omega (arith, mine, c.clear.ensures.asked, c.processors_of.ensures.processors, enough))
          (let mine : one_timed (place_in c.args.self.now.slots.items c.args.slot) ≡ one_known c.in-Running.ended.end = ap one_timed at in omega (arith, mine, c.clear.ensures.timed, c.count_known.ensures, known))),
    )

pub returns-clause-place : goal.returns-clause-place
returns-clause-place c =
    place_here c.args.self.now.slots.items c.clear.new.self.slots.items c.args.slot (generation_in c.args.self.now.slots.items c.args.slot) Absent c.clear.ensures.put c.args.slot refl

pub overflow_sub-self : goal.overflow_sub-self
overflow_sub-self c =
    let at : place_in c.args.self.now.slots.items c.args.slot ≡ Running c.requires.job.0 = c.requires.job.1 in
    let some : 1 ≤ c.args.self.now.running = running_some c.requires.shows.0.place c.args.self.now.next c.args.self.now.slots.items c.args.self.now.running c.args.self.now.asked c.args.self.now.timed c.requires.shows.1.3
    c.args.slot c.requires.job.0 c.requires.inside at in
    omega (arith, some)

pub overflow_sub-self-2 : goal.overflow_sub-self-2
overflow_sub-self-2 c =
    let at : place_in c.args.self.now.slots.items c.args.slot ≡ Running c.in-Running.ended =
    sym (sym c.in-Running.is ∙ c.place_at.ensures ∙ ap (λ (xs : List Slot). place_in xs c.args.slot) c.deref.ensures.value) in
    let enough : c.in-Running.ended.job.processors ≤ c.args.self.now.asked = asked_some c.requires.shows.0.place c.args.self.now.next c.args.self.now.slots.items c.args.self.now.running c.args.self.now.asked c.args.self.now.timed
    c.requires.shows.1.3 c.args.slot c.in-Running.ended c.requires.inside at in
    omega (arith, enough, c.processors_of.ensures.processors)

pub overflow_sub-self-3 : goal.overflow_sub-self-3
overflow_sub-self-3 c =
    let at : place_in c.args.self.now.slots.items c.args.slot ≡ Running c.in-Running.ended =
    sym (sym c.in-Running.is ∙ c.place_at.ensures ∙ ap (λ (xs : List Slot). place_in xs c.args.slot) c.deref.ensures.value) in
    let known : one_known c.in-Running.ended.end ≤ c.args.self.now.timed = timed_some c.requires.shows.0.place c.args.self.now.next c.args.self.now.slots.items c.args.self.now.running c.args.self.now.asked
    c.args.self.now.timed c.requires.shows.1.3 c.args.slot c.in-Running.ended c.requires.inside at in
    omega (arith, known, c.count_known.ensures)
