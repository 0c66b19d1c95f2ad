-- A waiting job leaves its line, and then its slot.
use Rattle.std.proofs.Common.{◌≡◌, ℕ, ◌+◌, List, None, refl, sym, ◌∙◌, subst, ap, arith}
use Rattle.sched_jobs.specs.Nodes.{key_of}
use Rattle.sched_law.specs.declared.job.Place.{Place}
use Rattle.sched_law.specs.declared.job.Place.TheVariants.{Absent, Waiting}
use Rattle.sched_law.specs.State.{set}
use Rattle.sched_law.proofs.SetLemmas.{absent_waits, set_here}
use Rattle.sched_jobs.specs.declared.slots.Slot.{Slot}
use Rattle.sched_jobs.specs.Slots.{IsPresent, generation_in, line_of, place_in}
use Rattle.sched_jobs.specs.Shows.{ShowsSlots}
use Rattle.sched_jobs.proofs.SlotLemmas.{place_here}
use Rattle.sched_jobs.proofs.ShowLemmas.{free_line, set_none, slots_alike, waiting_changed}
use Rattle.sched_jobs.specs.Sums.{ShowsRunning, one_runs, one_timed, used_by}
use Rattle.sched_jobs.proofs.SumLemmas.{running_moved}
use Rattle.sched_jobs.proofs.jobs.Jobs.cancel.Goals as goal

pub clear-requires-clause-slots : goal.clear-requires-clause-slots
clear-requires-clause-slots c = (
  c.requires.shows.0.place,
  slots_alike c.requires.shows.0.place c.args.self.now.next c.args.self.now.free c.args.self.now.slots.items c.args.self.now.lines.nodes.items c.leave.new.self.nodes.items c.leave.ensures.keys c.leave.ensures.ranks c.requires.shows.1.1,
)

pub returns-clause-shows : goal.returns-clause-shows
returns-clause-shows c = λ w shows.
    let mine : place_in c.args.self.now.slots.items c.args.slot ≡ Waiting c.in-Waiting.wait =
    sym (sym c.in-Waiting.is ∙ c.place_at.ensures ∙ ap (λ (xs : List Slot). place_in xs c.args.slot) c.deref.ensures.value) in
    let left = c.leave.ensures.lines (λ u. line_of (place_in c.args.self.now.slots.items u)) shows.2.shown (ap line_of mine) in
    let same = slots_alike w.place c.args.self.now.next c.args.self.now.free c.args.self.now.slots.items c.args.self.now.lines.nodes.items c.leave.new.self.nodes.items c.leave.ensures.keys c.leave.ensures.ranks shows.1 in
    let free = free_line w.place c.args.self.now.next c.args.self.now.free c.args.self.now.slots.items c.args.self.now.lines.nodes.items shows.1 in (
      shows.0 ∙ sym c.clear.ensures.next,
      subst (λ (x : ℕ). ShowsSlots (set w.place x Absent) c.clear.new.self.next c.clear.new.self.free c.clear.new.self.slots.items c.clear.new.self.lines.nodes.items) (c.leave.ensures.keys c.args.slot)
          (c.clear.ensures.slots w.place same),
      waiting_changed c.args.self.now.slots.items c.clear.new.self.slots.items c.args.self.now.lines c.clear.new.self.lines c.args.slot (generation_in c.args.self.now.slots.items c.args.slot) Absent shows.2
          c.clear.ensures.put (c.clear.ensures.count ∙ c.leave.ensures.slots)
          (c.clear.ensures.lines (set (λ u. line_of (place_in c.args.self.now.slots.items u)) c.args.slot None) left (set_here (λ u. line_of (place_in c.args.self.now.slots.items u)) c.args.slot None)
          (λ inside. set_none (λ u. line_of (place_in c.args.self.now.slots.items u)) c.args.slot c.args.self.now.free (free inside)))
          (λ u other present. c.clear.ensures.ranks u other present ∙ c.leave.ensures.ranks u) (λ wait is. absurd (absent_waits is)),
      subst (λ (n : ℕ). ShowsRunning (set w.place (key_of c.args.self.now.lines.nodes.items c.args.slot) Absent) n c.clear.new.self.slots.items c.clear.new.self.running c.clear.new.self.asked c.clear.new.self.timed) (sym c.clear.ensures.next)
          (running_moved w.place c.args.self.now.next c.args.self.now.slots.items c.args.self.now.running c.args.self.now.asked c.args.self.now.timed shows.3 c.clear.new.self.slots.items c.clear.new.self.running
          c.clear.new.self.asked c.clear.new.self.timed c.args.slot (generation_in c.args.self.now.slots.items c.args.slot) Absent c.clear.ensures.put (omega arith) c.args.self.now.free c.args.self.now.lines.nodes.items shows.1
          (subst IsPresent (sym mine) tt)
          (ap (λ (n : ℕ). n + one_runs (place_in c.args.self.now.slots.items c.args.slot)) c.clear.ensures.running ∙ ap (λ (x : Place). c.args.self.now.running + one_runs x) mine)
          (ap (λ (n : ℕ). n + used_by (place_in c.args.self.now.slots.items c.args.slot)) c.clear.ensures.asked ∙ ap (λ (x : Place). c.args.self.now.asked + used_by x) mine)
          (ap (λ (n : ℕ). n + one_timed (place_in c.args.self.now.slots.items c.args.slot)) c.clear.ensures.timed ∙ ap (λ (x : Place). c.args.self.now.timed + one_timed x) mine)),
    )

pub returns-clause-place : goal.returns-clause-place
returns-clause-place c =
    place_here c.args.self.now.slots.items c.clear.new.self.slots.items c.args.slot (generation_in c.args.self.now.slots.items c.args.slot) Absent c.clear.ensures.put c.args.slot refl
