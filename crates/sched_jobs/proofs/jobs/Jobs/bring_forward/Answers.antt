-- The slots before and after one are linked to each other, and it to the first.
use Rattle.std.proofs.Common.{◌≡◌, ℕ, ◌<◌, None, length, sym, ◌∙◌, ap, subst, arith}
use Rattle.sched_jobs.specs.Slots.{line_of, place_in}
use Rattle.sched_jobs.specs.Lines.{slots_of}
use Rattle.sched_jobs.proofs.ChangeLemmas.{after_absent, after_within, before_absent, before_inside, first_absent, forward_keys, forward_ranks, forward_shows}
use Rattle.sched_jobs.proofs.ShowLemmas.{waiting_relinked}
use Rattle.sched_jobs.proofs.jobs.Jobs.bring_forward.Goals as goal

pub free_before-before-requires-clause-before : goal.free_before-before-requires-clause-before
free_before-before-requires-clause-before c =
    let inside = before_inside c.requires.shows.0.place c.args.self.now.next c.args.self.now.free c.args.self.now.slots.items c.args.self.now.lines.nodes.items c.args.slot c.requires.shows.1.1 c.requires.inside c.requires.free c.requires.few c.if-slot-self.false in
    omega (arith, inside, c.requires.shows.1.1.limit)

pub free_after-after-requires-clause-after : goal.free_after-after-requires-clause-after
free_after-after-requires-clause-after c =
    let inside = after_within c.requires.shows.0.place c.args.self.now.next c.args.self.now.free c.args.self.now.slots.items c.args.self.now.lines.nodes.items c.args.slot c.requires.shows.1.1 c.requires.inside c.requires.free c.requires.few in
    omega (arith, inside, c.requires.shows.1.1.limit)

pub link-requires : goal.link-requires
link-requires c =
    let inside = before_inside c.requires.shows.0.place c.args.self.now.next c.args.self.now.free c.args.self.now.slots.items c.args.self.now.lines.nodes.items c.args.slot c.requires.shows.1.1 c.requires.inside c.requires.free c.requires.few c.if-slot-self.false in
    let count : slots_of c.args.self.now.lines ≡ length c.args.self.now.slots.items = c.requires.shows.1.2.count in
    let is : c.free_before-before.result < length c.args.self.now.slots.items = subst (λ (x : ℕ). x < length c.args.self.now.slots.items) (sym c.free_before-before.ensures) inside in
    omega (arith, is, count)

pub returns-clause-arrivals : goal.returns-clause-arrivals
returns-clause-arrivals c =
    forward_keys c.requires.shows.0.place c.args.self.now.next c.args.self.now.free c.args.self.now.slots.items c.args.self.now.lines.nodes.items c.args.slot c.requires.shows.1.1 c.requires.inside c.requires.free c.requires.few
    c.link.new.self.nodes.items c.link-2.new.self.nodes.items c.free_before-before.result c.free_after-after.result c.if-slot-self.false c.free_before-before.ensures c.free_after-after.ensures c.link.ensures.link c.link-2.ensures.link

pub returns-clause-shows : goal.returns-clause-shows
returns-clause-shows c = λ w shows.
    let count : slots_of c.args.self.now.lines ≡ length c.args.self.now.slots.items = shows.2.count in
    let line : ℕ → _ = λ u. line_of (place_in c.args.self.now.slots.items u) in
    let none_before : line c.free_before-before.result ≡ None = ap line c.free_before-before.ensures
    ∙ ap line_of (before_absent w.place c.args.self.now.next c.args.self.now.free c.args.self.now.slots.items c.args.self.now.lines.nodes.items c.args.slot shows.1 c.requires.inside c.requires.free c.requires.few c.if-slot-self.false) in
    let none_after : c.free_after-after.result < slots_of c.args.self.now.lines → line c.free_after-after.result ≡ None = λ within. ap line c.free_after-after.ensures
    ∙ ap line_of (after_absent w.place c.args.self.now.next c.args.self.now.free c.args.self.now.slots.items c.args.self.now.lines.nodes.items c.args.slot shows.1 c.requires.inside c.requires.free c.requires.few (subst (λ (x : ℕ). x < length c.args.self.now.slots.items) c.free_after-after.ensures (omega (arith, within, count)))) in
    let none_first : c.args.self.now.free < slots_of c.link.new.self → line c.args.self.now.free ≡ None = λ within. ap line_of (first_absent w.place c.args.self.now.next c.args.self.now.free
    c.args.self.now.slots.items c.args.self.now.lines.nodes.items shows.1 (omega (arith, within, count, c.link.ensures.link.len))) in (
      shows.0,
      forward_shows w.place c.args.self.now.next c.args.self.now.free c.args.self.now.slots.items c.args.self.now.lines.nodes.items c.args.slot shows.1 c.requires.inside c.requires.free c.requires.few
          c.link.new.self.nodes.items c.link-2.new.self.nodes.items c.free_before-before.result c.free_after-after.result c.if-slot-self.false c.free_before-before.ensures c.free_after-after.ensures c.link.ensures.link c.link-2.ensures.link count,
      waiting_relinked c.args.self.now.slots.items c.args.self.now.lines c.link-2.new.self shows.2 (c.link-2.ensures.link.len ∙ c.link.ensures.link.len)
          (c.link-2.ensures.lines line (c.link.ensures.lines line shows.2.shown none_before none_after) (ap line_of c.requires.free) none_first)
          (forward_ranks w.place c.args.self.now.next c.args.self.now.free c.args.self.now.slots.items c.args.self.now.lines.nodes.items c.args.slot shows.1 c.requires.inside c.requires.free c.requires.few
          c.link.new.self.nodes.items c.link-2.new.self.nodes.items c.free_before-before.result c.free_after-after.result c.if-slot-self.false c.free_before-before.ensures c.free_after-after.ensures c.link.ensures.link c.link-2.ensures.link),
      shows.3,
    )
