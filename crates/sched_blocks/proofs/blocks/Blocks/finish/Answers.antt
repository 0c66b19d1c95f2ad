use Rattle.std.proofs.Common.{◌≡◌, Some, refl, sym, ◌∙◌, ap, subst, inl, false}
use Rattle.cube_shape.specs.declared.region.Region.{Region}
use Rattle.sched_blocks.specs.Layout.{Layout}
use Rattle.sched_blocks.specs.Shows.{Shows}
use Rattle.sched_law.specs.State.{block_of}
use Rattle.sched_blocks.proofs.ChangeLemmas.{NotesEnd, NotesUse, finish_shows}
use Rattle.sched_blocks.proofs.blocks.Blocks.finish.Goals as goal

pub returns-in_default-clause-shows : goal.returns-in_default-clause-shows
returns-in_default-clause-shows c = λ w j run shows runs is.
    let inner = subst (Shows w) (sym c.self.view_is) shows in
    absurd (c.in_default.ensures.refused (inner.holds c.args.region (inl (j, ap block_of runs ∙ ap (λ (y : Region). Some y) is))))

pub returns-clause-shows : goal.returns-clause-shows
returns-clause-shows c = λ w j run shows runs is.
    let inner = subst (Shows w) (sym c.self.view_is) shows in
    let after : Layout = record { dim = c.self.inside.dim; used = c.release.new.self; out = c.self.inside.out; ends = c.note_idle.new.ends.items; busy = c.note_idle.new.busy.items } in
    let size : c.dim-n.result ≡ c.self.inside.dim = c.dim-n.ensures.dim ∙ c.self.invariant.used_dim in
    finish_shows w _ after c.args.region inner refl j run runs is refl c.in-Ok.ensures.released
    (subst (λ n. NotesEnd n c.args.region 0 c.self.inside.ends.items c.note_idle.new.ends.items) size c.note_idle.ensures.ends)
    (subst (λ n. NotesUse n c.args.region false c.self.inside.busy.items c.note_idle.new.busy.items) size c.note_idle.ensures.busy)
