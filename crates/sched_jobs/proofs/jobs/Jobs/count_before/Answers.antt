-- The lines of lower classes, and of the class itself up to the number of the job.
use Rattle.std.proofs.Common.{◌≡◌, ℕ, ◌+◌, ◌*◌, List, Some, refl, sym, ◌∙◌, ap, subst}
use Rattle.cube_shape.specs.declared.limits.TheConstants.{MAX_BITMAP_DIM}
use Rattle.alloc_bits.specs.Count.{IsCount}
use Rattle.sched_law.specs.declared.job.Place.TheVariants.{Waiting}
use Rattle.sched_law.specs.declared.job.SchedWait.{SchedWait}
use Rattle.sched_law.proofs.SetLemmas.{wait_is}
use Rattle.sched_jobs.specs.declared.slots.Slot.{Slot}
use Rattle.sched_jobs.specs.Slots.{line_of, place_in}
use Rattle.sched_jobs.specs.Counts.{WaitsBefore}
use Rattle.sched_jobs.specs.Inner.Numbers.{HasKeyFrom}
use Rattle.sched_jobs.specs.Shows.{arrival_of}
use Rattle.sched_jobs.proofs.CountLemmas.{before_counted, numbers}
use Rattle.sched_jobs.proofs.jobs.Jobs.count_before.Goals as goal

pub returns-clause-count : goal.returns-clause-count
returns-clause-count c = λ w wait shows waits.
    let mine : place_in c.args.self.now.slots.items c.args.slot ≡ Waiting c.in-Waiting.wait =
    sym (sym c.in-Waiting.is ∙ c.place_at.ensures ∙ ap (λ (xs : List Slot). place_in xs c.args.slot) c.deref.ensures.value) in
    let one : c.in-Waiting.wait ≡ wait = wait_is (sym mine ∙ waits) in
    let lows = c.count_classes-lower.ensures.count (λ u. line_of (place_in c.args.self.now.slots.items u)) c.args.self.now.next shows.2.shown (numbers w c.args.self.now shows) in
    let owns = c.count.ensures.count (λ u. line_of (place_in c.args.self.now.slots.items u)) c.args.self.now.next shows.2.shown (numbers w c.args.self.now shows) in
    subst (λ (x : SchedWait). IsCount (WaitsBefore w (arrival_of c.args.self.now c.args.slot) x.job) w.next (c.count_classes-lower.result + c.count.result)) one
    (before_counted w c.args.self.now shows c.args.slot c.in-Waiting.wait mine c.count_classes-lower.result c.count.result (c.count_classes-lower.result + c.count.result) refl lows
    (subst (λ (k : ℕ). IsCount (HasKeyFrom c.args.self.now.lines.nodes.items (λ u. line_of (place_in c.args.self.now.slots.items u)) (c.in-Waiting.wait.job.class * (MAX_BITMAP_DIM + 1))
    (c.in-Waiting.wait.job.class * (MAX_BITMAP_DIM + 1) + (MAX_BITMAP_DIM + 1)) (Some k)) c.args.self.now.next c.count.result) c.key-number.ensures owns))
