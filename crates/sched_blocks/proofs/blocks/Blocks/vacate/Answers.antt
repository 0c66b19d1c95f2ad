use Rattle.std.proofs.Common.{◌≡◌, refl, sym, ◌∙◌, subst, inr, false}
use Rattle.sched_blocks.specs.Layout.{Layout}
use Rattle.sched_blocks.specs.Shows.{Shows}
use Rattle.sched_blocks.proofs.ChangeLemmas.{NotesEnd, NotesUse, vacate_shows}
use Rattle.sched_blocks.proofs.blocks.Blocks.vacate.Goals as goal

pub returns-in_default-release-clause-shows : goal.returns-in_default-release-clause-shows
returns-in_default-release-clause-shows c = λ w shows is.
    let inner = subst (Shows w) (sym c.self.view_is) shows in
    absurd (c.in_default-release.ensures.refused (inner.holds c.args.region (inr (c.args.region.base, is))))

pub returns-clause-shows : goal.returns-clause-shows
returns-clause-shows c = λ w shows is.
    let inner = subst (Shows w) (sym c.self.view_is) shows in
    let after : Layout = record { dim = c.self.inside.dim; used = c.release-2.new.self; out = c.release.new.self; ends = c.note_idle.new.ends.items; busy = c.note_idle.new.busy.items } in
    let size : c.dim-n.result ≡ c.self.inside.dim = c.dim-n.ensures.dim ∙ c.self.invariant.out_dim in
    vacate_shows w _ after c.args.region inner refl is c.in-Ok-release.ensures.released c.in-Ok.ensures.released
    (subst (λ n. NotesEnd n c.args.region 0 c.self.inside.ends.items c.note_idle.new.ends.items) size c.note_idle.ensures.ends)
    (subst (λ n. NotesUse n c.args.region false c.self.inside.busy.items c.note_idle.new.busy.items) size c.note_idle.ensures.busy)
