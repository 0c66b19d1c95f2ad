-- A waiting job waits on, and keeps its number and its line.
use Rattle.std.proofs.Common.{◌≡◌, ℕ, ◌+◌, ◌^◌, min, List, refl, sym, ◌∙◌, ap, subst, arith}
use Rattle.sched_law.specs.declared.job.Place.{Place}
use Rattle.sched_law.specs.declared.job.Place.TheVariants.{Waiting}
use Rattle.sched_law.specs.declared.job.SchedWait.{SchedWait}
use Rattle.sched_law.specs.declared.job.TheConstants.{NEVER}
use Rattle.sched_law.specs.State.{set}
use Rattle.sched_law.proofs.SetLemmas.{wait_is}
use Rattle.sched_jobs.specs.Nodes.{key_of}
use Rattle.sched_jobs.specs.declared.slots.Slot.{Slot}
use Rattle.sched_jobs.specs.Slots.{IsPresent, generation_in, line_of, place_in}
use Rattle.sched_jobs.specs.Shows.{ShowsSlots}
use Rattle.sched_jobs.proofs.ChangeLemmas.{replace_shows}
use Rattle.sched_jobs.proofs.ShowLemmas.{own_of, set_same, waiting_changed}
use Rattle.sched_jobs.specs.Sums.{ShowsRunning, one_runs, one_timed, used_by}
use Rattle.sched_jobs.proofs.SumLemmas.{running_moved}
use Rattle.sched_jobs.proofs.jobs.Jobs.pass.Goals as goal

pub returns-clause-shows : goal.returns-clause-shows
returns-clause-shows c = λ w wait shows waits.
    let mine : place_in c.args.self.now.slots.items c.args.slot ≡ Waiting c.in-Waiting.wait =
    sym (sym c.in-Waiting.is ∙ c.place_at.ensures ∙ ap (λ (xs : List Slot). place_in xs c.args.slot) c.deref.ensures.value) in
    let one : c.in-Waiting.wait ≡ wait = wait_is (sym mine ∙ waits) in
    let counted : c.generation_at-generation.result ≡ generation_in c.args.self.now.slots.items c.args.slot =
    c.generation_at-generation.ensures ∙ ap (λ (xs : List Slot). generation_in xs c.args.slot) c.deref-2.ensures.value in
    let to : Place = Waiting (record { job = c.in-Waiting.wait.job; passed = c.passed_more-passed.result }) in
    let becomes : to ≡ Waiting (record { job = wait.job; passed = min (wait.passed + 2 ^ c.args.k) NEVER }) =
    ap (λ (n : ℕ). Waiting (record { job = c.in-Waiting.wait.job; passed = n })) c.passed_more-passed.ensures ∙ ap (λ (x : SchedWait). Waiting (record { job = x.job; passed = min (x.passed + 2 ^ c.args.k) NEVER })) one in
    let done = replace_shows w.place c.args.self.now.next c.args.self.now.free c.args.self.now.slots.items c.put.new.slots.items c.args.self.now.lines.nodes.items c.args.self.now.lines.nodes.items
    c.args.slot c.generation_at-generation.result to shows.1 (subst IsPresent (sym waits) tt) tt counted c.put.ensures (record { here = refl; others = λ u other. refl }) (λ u other. refl) in (
      shows.0,
      subst (λ (x : Place). ShowsSlots (set w.place (key_of c.args.self.now.lines.nodes.items c.args.slot) x) c.args.self.now.next c.args.self.now.free c.put.new.slots.items c.args.self.now.lines.nodes.items) becomes done,
      waiting_changed c.args.self.now.slots.items c.put.new.slots.items c.args.self.now.lines c.args.self.now.lines c.args.slot c.generation_at-generation.result to shows.2 c.put.ensures refl
          (set_same c.args.self.now.slots.items c.args.self.now.lines (λ u. line_of (place_in c.args.self.now.slots.items u)) c.args.slot (line_of to) shows.2.shown (ap line_of mine))
          (λ u other _. refl)
          (own_of _ (record { job = c.in-Waiting.wait.job; passed = c.passed_more-passed.result }) (shows.2.rank c.args.slot c.in-Waiting.wait mine) (shows.2.class c.args.slot c.in-Waiting.wait mine)
          (shows.2.dim c.args.slot c.in-Waiting.wait mine)),
      subst (λ (x : Place). ShowsRunning (set w.place (key_of c.args.self.now.lines.nodes.items c.args.slot) x) c.args.self.now.next c.put.new.slots.items c.args.self.now.running c.args.self.now.asked c.args.self.now.timed) becomes
          (running_moved w.place c.args.self.now.next c.args.self.now.slots.items c.args.self.now.running c.args.self.now.asked c.args.self.now.timed shows.3 c.put.new.slots.items c.args.self.now.running
          c.args.self.now.asked c.args.self.now.timed c.args.slot c.generation_at-generation.result to c.put.ensures (omega arith)
          c.args.self.now.free c.args.self.now.lines.nodes.items shows.1 (subst IsPresent (sym waits) tt)
          (ap (λ (x : Place). c.args.self.now.running + one_runs x) mine) (ap (λ (x : Place). c.args.self.now.asked + used_by x) mine)
          (ap (λ (x : Place). c.args.self.now.timed + one_timed x) mine)),
    )
