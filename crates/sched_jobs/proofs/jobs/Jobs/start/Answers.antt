-- A waiting job leaves its line, gets another place, and keeps its number.
use Rattle.std.proofs.Common.{◌≡◌, ℕ, ◌+◌, ◌*◌, ◌^◌, ◌≤◌, List, sym, ◌∙◌, ap, subst, arith}
use Rattle.sched_law.specs.declared.job.Place.{Place}
use Rattle.sched_law.specs.declared.job.Place.TheVariants.{Waiting, Running}
use Rattle.sched_law.specs.declared.job.SchedWait.{SchedWait}
use Rattle.sched_law.specs.State.{end_after, set}
use Rattle.sched_law.proofs.SetLemmas.{runs_waits, wait_is}
use Rattle.sched_jobs.specs.declared.nodes.TheConstants.{MAX_SLOTS}
use Rattle.sched_jobs.specs.Nodes.{key_of}
use Rattle.sched_jobs.specs.declared.slots.Slot.{Slot}
use Rattle.sched_jobs.specs.Slots.{IsPresent, generation_in, line_of, place_in}
use Rattle.sched_jobs.specs.Shows.{ShowsSlots}
use Rattle.sched_jobs.proofs.ChangeLemmas.{replace_shows}
use Rattle.sched_jobs.proofs.ShowLemmas.{waiting_changed}
use Rattle.sched_jobs.specs.Sums.{ShowsRunning, one_known, one_runs, one_timed, used_by}
use Rattle.sched_jobs.proofs.SumLemmas.{asked_few, running_few, running_moved, known_few, timed_few}
use Rattle.sched_jobs.proofs.jobs.Jobs.start.Goals as goal

pub returns-clause-shows : goal.returns-clause-shows
returns-clause-shows c = λ w wait shows waits at_end.
    let mine : place_in c.args.self.now.slots.items c.args.slot ≡ Waiting c.in-Waiting.wait =
    sym (sym c.in-Waiting.is ∙ c.place_at.ensures ∙ ap (λ (xs : List Slot). place_in xs c.args.slot) c.deref.ensures.value) in
    let one : c.in-Waiting.wait ≡ wait = wait_is (sym mine ∙ waits) in
    let counted : c.generation_at-generation.result ≡ generation_in c.args.self.now.slots.items c.args.slot =
    c.generation_at-generation.ensures ∙ ap (λ (xs : List Slot). generation_in xs c.args.slot) c.deref-2.ensures.value in
    let to : Place = Running (record { job = c.in-Waiting.wait.job; block = c.args.block; end = c.args.end }) in
    let becomes : to ≡ Running (record { job = wait.job; block = c.args.block; end = end_after w.now wait.job.estimate }) =
    ap (λ (x : SchedWait). Running (record { job = x.job; block = c.args.block; end = c.args.end })) one ∙ ap (λ (e : ℕ). Running (record { job = wait.job; block = c.args.block; end = e })) at_end in
    let done = replace_shows w.place c.args.self.now.next c.args.self.now.free c.args.self.now.slots.items c.put.new.slots.items c.args.self.now.lines.nodes.items c.leave.new.self.nodes.items
    c.args.slot c.generation_at-generation.result to shows.1 (subst IsPresent (sym waits) tt) tt counted c.put.ensures (record { here = c.leave.ensures.keys c.args.slot; others = λ u other. c.leave.ensures.keys u })
    (λ u other. c.leave.ensures.ranks u) in
    let left = c.leave.ensures.lines (λ u. line_of (place_in c.args.self.now.slots.items u)) shows.2.shown (ap line_of mine) in (
      shows.0,
      subst (λ (x : Place). ShowsSlots (set w.place (key_of c.args.self.now.lines.nodes.items c.args.slot) x) c.args.self.now.next c.args.self.now.free c.put.new.slots.items c.leave.new.self.nodes.items) becomes done,
      waiting_changed c.args.self.now.slots.items c.put.new.slots.items c.args.self.now.lines c.leave.new.self c.args.slot c.generation_at-generation.result to shows.2 c.put.ensures c.leave.ensures.slots
          left (λ u other _. c.leave.ensures.ranks u) (λ wait is. absurd (runs_waits is)),
      subst (λ (x : Place). ShowsRunning (set w.place (key_of c.args.self.now.lines.nodes.items c.args.slot) x) c.args.self.now.next c.put.new.slots.items (c.args.self.now.running + 1) (c.args.self.now.asked + c.processors_of.result) (c.args.self.now.timed + c.count_known.result)) becomes
          (running_moved w.place c.args.self.now.next c.args.self.now.slots.items c.args.self.now.running c.args.self.now.asked c.args.self.now.timed shows.3 c.put.new.slots.items (c.args.self.now.running + 1)
          (c.args.self.now.asked + c.processors_of.result) (c.args.self.now.timed + c.count_known.result) c.args.slot c.generation_at-generation.result to c.put.ensures (subst (λ (n : ℕ). n ≤ 2 ^ 32) c.processors_of.ensures.processors c.processors_of.ensures.few)
          c.args.self.now.free c.args.self.now.lines.nodes.items shows.1 (subst IsPresent (sym waits) tt)
          (let none : one_runs (place_in c.args.self.now.slots.items c.args.slot) ≡ 0 = ap one_runs mine in omega (arith, none))
          (let none : used_by (place_in c.args.self.now.slots.items c.args.slot) ≡ 0 = ap used_by mine in omega (arith, none, c.processors_of.ensures.processors))
          (let none : one_timed (place_in c.args.self.now.slots.items c.args.slot) ≡ 0 = ap one_timed mine in omega (arith, none, c.count_known.ensures))),
    )

pub overflow_add-self : goal.overflow_add-self
overflow_add-self c =
    let few : c.args.self.now.running ≤ MAX_SLOTS * 2 ^ 32 =
    running_few c.requires.shows.0.place c.args.self.now.next c.args.self.now.slots.items c.args.self.now.running c.args.self.now.asked c.args.self.now.timed c.requires.shows.1.3 c.requires.shows.1.1.limit in
    omega (arith, few)

pub overflow_add-self-2 : goal.overflow_add-self-2
overflow_add-self-2 c =
    let few : c.args.self.now.asked ≤ MAX_SLOTS * 2 ^ 32 =
    asked_few c.requires.shows.0.place c.args.self.now.next c.args.self.now.slots.items c.args.self.now.running c.args.self.now.asked c.args.self.now.timed c.requires.shows.1.3 c.requires.shows.1.1.limit in
    omega (arith, few, c.processors_of.ensures.few)

pub overflow_add-self-3 : goal.overflow_add-self-3
overflow_add-self-3 c =
    let few : c.args.self.now.timed ≤ MAX_SLOTS * 2 ^ 32 =
    timed_few c.requires.shows.0.place c.args.self.now.next c.args.self.now.slots.items c.args.self.now.running c.args.self.now.asked c.args.self.now.timed c.requires.shows.1.3 c.requires.shows.1.1.limit in
    let one : one_known c.args.end ≤ 2 ^ 32 = known_few c.args.end in
    omega (arith, few, one, c.count_known.ensures)
