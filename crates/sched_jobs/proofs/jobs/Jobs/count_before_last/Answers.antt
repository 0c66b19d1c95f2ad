-- The job that was submitted last comes after all others up to its class.
use Rattle.std.proofs.Common.{◌≡◌, ℕ, ◌+◌, ◌-◌, List, sym, ◌∙◌, ap, subst, arith}
use Rattle.alloc_bits.specs.Count.{IsCount}
use Rattle.sched_law.specs.declared.job.Place.TheVariants.{Waiting}
use Rattle.sched_law.specs.declared.job.SchedWait.{SchedWait}
use Rattle.sched_law.proofs.SetLemmas.{wait_is}
use Rattle.sched_jobs.specs.declared.slots.Slot.{Slot}
use Rattle.sched_jobs.specs.Slots.{place_in}
use Rattle.sched_jobs.specs.Counts.{WaitsBefore}
use Rattle.sched_jobs.specs.Shows.{arrival_of}
use Rattle.sched_jobs.proofs.CountLemmas.{last_counted}
use Rattle.sched_jobs.proofs.jobs.Jobs.count_before_last.Goals as goal

pub returns-clause-count : goal.returns-clause-count
returns-clause-count c = λ w wait shows waits.
    let mine : place_in c.args.self.now.slots.items c.args.slot ≡ Waiting c.in-Waiting.wait =
    sym (sym c.in-Waiting.is ∙ c.place_at.ensures ∙ ap (λ (xs : List Slot). place_in xs c.args.slot) c.deref.ensures.value) in
    let one : c.in-Waiting.wait ≡ wait = wait_is (sym mine ∙ waits) in
    let found = last_counted w c.args.self.now shows c.args.slot c.in-Waiting.wait c.waiting_up_to.result mine c.requires.last (c.waiting_up_to.ensures.count w shows) in
    let total : c.waiting_up_to.result ≡ found.0 + 1 = found.1 in
    let right : found.0 ≡ c.waiting_up_to.result - 1 = omega (arith, total) in
    subst (λ (x : SchedWait). IsCount (WaitsBefore w (arrival_of c.args.self.now c.args.slot) x.job) w.next (c.waiting_up_to.result - 1)) one
    (subst (λ (n : ℕ). IsCount (WaitsBefore w (arrival_of c.args.self.now c.args.slot) c.in-Waiting.wait.job) w.next n) right found.2)
