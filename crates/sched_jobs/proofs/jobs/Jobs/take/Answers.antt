-- The first free slot gets the job, and joins its line.
use Rattle.std.proofs.Common.{◌≡◌, ◌+◌, ℕ, List, ap, subst, sym, ◌∙◌}
use Rattle.sched_law.specs.declared.job.Place.TheVariants.{Waiting}
use Rattle.sched_law.specs.State.{set}
use Rattle.sched_jobs.specs.declared.slots.Slot.{Slot}
use Rattle.sched_jobs.specs.Slots.{generation_in, line_at, line_of, place_in}
use Rattle.sched_jobs.specs.Shows.{ShowsSlots}
use Rattle.sched_jobs.proofs.ChangeLemmas.{after_inside, first_absent, first_is_free, submit_shows}
use Rattle.sched_jobs.proofs.ShowLemmas.{may_join, own_of, waiting_changed}
use Rattle.sched_jobs.specs.Sums.{ShowsRunning}
use Rattle.sched_jobs.proofs.SumLemmas.{running_added}
use Rattle.sched_jobs.proofs.jobs.Jobs.take.Goals as goal

pub free_after-self-requires-clause-after : goal.free_after-self-requires-clause-after
free_after-self-requires-clause-after c =
    let k = subst (λ (x : ℕ). ShowsSlots c.requires.shows.0.place c.args.self.now.next x c.args.self.now.slots.items c.args.self.now.lines.nodes.items) (sym c.requires.first) c.requires.shows.1.1 in
    after_inside c.requires.shows.0.place c.args.self.now.next c.args.slot c.args.self.now.slots.items c.args.self.now.lines.nodes.items k c.requires.inside

pub join-requires-clause-lines : goal.join-requires-clause-lines
join-requires-clause-lines c =
    let k = subst (λ (x : ℕ). ShowsSlots c.requires.shows.0.place c.args.self.now.next x c.args.self.now.slots.items c.args.self.now.lines.nodes.items) (sym c.requires.first) c.requires.shows.1.1 in
    let absent = first_absent c.requires.shows.0.place c.args.self.now.next c.args.slot c.args.self.now.slots.items c.args.self.now.lines.nodes.items k c.requires.inside in (
      λ u. line_of (place_in c.args.self.now.slots.items u),
      may_join c.requires.shows.0.place c.args.self.now.next c.args.slot c.args.self.now.slots.items c.args.self.now.lines (line_at c.args.job.class c.args.job.dim) c.args.slot
          k c.requires.shows.1.2 absent,
    )

pub returns-clause-free : goal.returns-clause-free
returns-clause-free c =
    let k = subst (λ (x : ℕ). ShowsSlots c.requires.shows.0.place c.args.self.now.next x c.args.self.now.slots.items c.args.self.now.lines.nodes.items) (sym c.requires.first) c.requires.shows.1.1 in (
      first_absent c.requires.shows.0.place c.args.self.now.next c.args.slot c.args.self.now.slots.items c.args.self.now.lines.nodes.items k c.requires.inside,
      first_is_free c.requires.shows.0.place c.args.self.now.next c.args.slot c.args.self.now.slots.items c.args.self.now.lines.nodes.items k c.requires.inside,
    )

pub returns-clause-shows : goal.returns-clause-shows
returns-clause-shows c = λ w shows.
    let k = subst (λ (x : ℕ). ShowsSlots w.place c.args.self.now.next x c.args.self.now.slots.items c.args.self.now.lines.nodes.items) (sym c.requires.first) shows.1 in
    let absent = first_absent w.place c.args.self.now.next c.args.slot c.args.self.now.slots.items c.args.self.now.lines.nodes.items k c.requires.inside in
    let counted : c.generation_at-generation.result + 1 ≡ generation_in c.args.self.now.slots.items c.args.slot + 1 =
    ap (λ (n : ℕ). n + 1) (c.generation_at-generation.ensures ∙ ap (λ (xs : List Slot). generation_in xs c.args.slot) c.deref.ensures.value) in
    let done = submit_shows w.place c.args.self.now.next c.args.slot c.args.self.now.slots.items c.put.new.slots.items c.args.self.now.lines.nodes.items c.join.new.self.nodes.items
    (c.generation_at-generation.result + 1) (Waiting (record { job = c.args.job; passed = 0 })) k c.requires.inside tt counted c.put.ensures (record { here = c.join.ensures.key; others = c.join.ensures.keys })
    c.join.ensures.ranks in
    let may = may_join w.place c.args.self.now.next c.args.slot c.args.self.now.slots.items c.args.self.now.lines (line_at c.args.job.class c.args.job.dim) c.args.slot k shows.2 absent in (
      ap (λ (n : ℕ). n + 1) shows.0,
      subst (λ (x : ℕ). ShowsSlots (set w.place x (Waiting (record { job = c.args.job; passed = 0 }))) (c.args.self.now.next + 1) c.free_after-self.result c.put.new.slots.items c.join.new.self.nodes.items) (sym shows.0)
          (subst (λ (x : ℕ). ShowsSlots (set w.place c.args.self.now.next (Waiting (record { job = c.args.job; passed = 0 }))) (c.args.self.now.next + 1) x c.put.new.slots.items c.join.new.self.nodes.items)
          (sym c.free_after-self.ensures) done),
      waiting_changed c.args.self.now.slots.items c.put.new.slots.items c.args.self.now.lines c.join.new.self c.args.slot (c.generation_at-generation.result + 1)
          (Waiting (record { job = c.args.job; passed = 0 })) shows.2 c.put.ensures c.join.ensures.slots (c.join.ensures.lines (λ u. line_of (place_in c.args.self.now.slots.items u)) may) (λ u other _. c.join.ensures.ranks u other)
          (own_of _ (record { job = c.args.job; passed = 0 }) c.join.ensures.rank c.requires.class c.requires.dim),
      subst (λ (x : ℕ). ShowsRunning (set w.place x (Waiting (record { job = c.args.job; passed = 0 }))) (c.args.self.now.next + 1) c.put.new.slots.items c.args.self.now.running c.args.self.now.asked c.args.self.now.timed) (sym shows.0)
          (running_added w.place c.args.self.now.next c.args.self.now.slots.items c.put.new.slots.items c.args.self.now.running c.args.self.now.asked c.args.self.now.timed c.args.slot
          (c.generation_at-generation.result + 1) (record { job = c.args.job; passed = 0 }) shows.3 c.put.ensures c.requires.inside absent),
    )
