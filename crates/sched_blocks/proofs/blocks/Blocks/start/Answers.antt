use Rattle.std.proofs.Common.{refl, sym, subst}
use Rattle.cube_shape.specs.Region.{IsAligned}
use Rattle.sched_blocks.specs.Layout.{Layout}
use Rattle.sched_blocks.specs.Shows.{Shows}
use Rattle.sched_blocks.proofs.ShowsLemmas.{vacant_free}
use Rattle.sched_blocks.proofs.ChangeLemmas.{start_shows}
use Rattle.sched_blocks.proofs.blocks.Blocks.start.Goals as goal

pub returns-in_default-clause-shows : goal.returns-in_default-clause-shows
returns-in_default-clause-shows c = λ w j wait shows waits vacant size at_end.
    let inner = subst (Shows w) (sym c.self.view_is) shows in
    absurd (c.in_default.ensures.refused (vacant_free w _ inner c.args.region vacant))

pub returns-clause-shows : goal.returns-clause-shows
returns-clause-shows c = λ w j wait shows waits vacant size at_end.
    let inner = subst (Shows w) (sym c.self.view_is) shows in
    let after : Layout = record { dim = c.self.inside.dim; used = c.take_at.new.self; out = c.self.inside.out; ends = c.note_use.new.ends.items; busy = c.note_use.new.busy.items } in
    let aligned = subst (λ (b : Layout). IsAligned b.dim c.args.region) (sym c.self.view_is) c.requires in
    start_shows w _ after c.args.region inner refl j wait c.args.end c.self.inside.used.dim c.args.region.dim aligned waits vacant size at_end refl c.in-Ok.ensures.given c.note_use.ensures.ends c.note_use.ensures.busy
