-- The slot is the first free one, or retired.
use Rattle.std.proofs.Common.{◌≡◌, ◌≤◌, ◌<◌, List, ◌∙◌, ap, arith}
use Rattle.sched_jobs.specs.declared.slots.TheConstants.{MAX_GENERATION}
use Rattle.sched_jobs.specs.declared.slots.Slot.{Slot}
use Rattle.sched_jobs.specs.Slots.{generation_in}
use Rattle.sched_jobs.proofs.ChangeLemmas.{clear_shows, first_absent, job_apart, retire_shows}
use Rattle.sched_jobs.proofs.jobs.Jobs.clear.Goals as goal

pub returns-then-is_last-clause-slots :
    goal.returns-then-is_last-clause-slots
returns-then-is_last-clause-slots c = λ place k.
    let counted : c.generation_at-generation.result ≡ generation_in c.args.self.now.slots.items c.args.slot =
    c.generation_at-generation.ensures ∙ ap (λ (xs : List Slot). generation_in xs c.args.slot) c.deref.ensures.value in
    let last : MAX_GENERATION ≤ c.generation_at-generation.result = omega (arith, c.if-is_last.true) in
    retire_shows place c.args.self.now.next c.args.self.now.free c.args.self.now.slots.items c.put.new.slots.items c.args.self.now.lines.nodes.items c.args.slot c.generation_at-generation.result
    k c.requires.job counted last c.put.ensures

pub returns-clause-slots : goal.returns-clause-slots
returns-clause-slots c = λ place k.
    let counted : c.generation_at-generation.result ≡ generation_in c.args.self.now.slots.items c.args.slot =
    c.generation_at-generation.ensures ∙ ap (λ (xs : List Slot). generation_in xs c.args.slot) c.deref.ensures.value in
    let fewer : c.generation_at-generation.result < MAX_GENERATION = omega (arith, c.if-is_last.false) in
    clear_shows place c.args.self.now.next c.args.self.now.free c.args.self.now.slots.items c.put.new.slots.items c.args.self.now.lines.nodes.items c.link.new.self.nodes.items c.args.slot
    c.generation_at-generation.result k c.requires.inside c.requires.count c.requires.job counted fewer c.put.ensures c.link.ensures.link

pub returns-clause-lines : goal.returns-clause-lines
returns-clause-lines c = λ line shown none first_none. c.link.ensures.lines line shown none (λ within. first_none (omega (arith, within, c.requires.count)))

pub returns-clause-ranks : goal.returns-clause-ranks
returns-clause-ranks c = λ u other present. c.link.ensures.link.backs u (job_apart c.args.self.now.slots.items c.args.self.now.free u
    (λ within. first_absent c.requires.slots.0 c.args.self.now.next c.args.self.now.free c.args.self.now.slots.items c.args.self.now.lines.nodes.items c.requires.slots.1 within) present)
