use Rattle.std.proofs.Common.{refl, sym, subst}
use Rattle.cube_shape.specs.Region.{IsAligned}
use Rattle.sched_blocks.specs.Layout.{Layout}
use Rattle.sched_blocks.specs.Shows.{Shows}
use Rattle.std.proofs.lemmas.Bool.{true≢false}
use Rattle.sched_blocks.proofs.ShowsLemmas.{free_vacant, usable_free, vacant_free}
use Rattle.sched_blocks.proofs.ChangeLemmas.{occupy_shows}
use Rattle.sched_blocks.proofs.blocks.Blocks.occupy.Goals as goal

pub returns-in_default-clause-vacant : goal.returns-in_default-clause-vacant
returns-in_default-clause-vacant c = λ w shows.
    let inner = subst (Shows w) (sym c.self.view_is) shows in
    (λ is. absurd (true≢false (sym is)), λ vacant. absurd (c.in_default.ensures.refused (vacant_free w _ inner c.args.region vacant)))

pub returns-in_default-clause-shows : goal.returns-in_default-clause-shows
returns-in_default-clause-shows c = λ w shows vacant.
    let inner = subst (Shows w) (sym c.self.view_is) shows in
    absurd (c.in_default.ensures.refused (vacant_free w _ inner c.args.region vacant))

pub returns-in_default-take_at-clause-vacant : goal.returns-in_default-take_at-clause-vacant
returns-in_default-take_at-clause-vacant c = λ w shows.
    let inner = subst (Shows w) (sym c.self.view_is) shows in
    (λ is. absurd (true≢false (sym is)), λ vacant. absurd (c.in_default-take_at.ensures.refused (usable_free w _ inner c.args.region vacant.1)))

pub returns-in_default-take_at-clause-shows : goal.returns-in_default-take_at-clause-shows
returns-in_default-take_at-clause-shows c = λ w shows vacant.
    let inner = subst (Shows w) (sym c.self.view_is) shows in
    absurd (c.in_default-take_at.ensures.refused (usable_free w _ inner c.args.region vacant.1))

pub returns-in_default-take_at-clause-unchanged : goal.returns-in_default-take_at-clause-unchanged
returns-in_default-take_at-clause-unchanged c = λ w shows other.
    let inner = subst (Shows w) (sym c.self.view_is) shows in
    absurd (other (free_vacant w _ inner c.args.region c.in-Ok.ensures.given.apart))

pub returns-clause-vacant : goal.returns-clause-vacant
returns-clause-vacant c = λ w shows.
    let inner = subst (Shows w) (sym c.self.view_is) shows in
    (λ is. free_vacant w _ inner c.args.region c.in-Ok.ensures.given.apart, λ vacant. refl)

pub returns-clause-shows : goal.returns-clause-shows
returns-clause-shows c = λ w shows vacant.
    let inner = subst (Shows w) (sym c.self.view_is) shows in
    let after : Layout = record { dim = c.self.inside.dim; used = c.take_at.new.self; out = c.take_at-2.new.self; ends = c.note_use.new.ends.items; busy = c.note_use.new.busy.items } in
    let aligned = subst (λ (b : Layout). IsAligned b.dim c.args.region) (sym c.self.view_is) c.requires in
    occupy_shows w _ after c.args.region inner refl c.self.inside.used.dim c.args.region.dim c.self.inside.out.dim c.args.region.dim aligned vacant c.in-Ok.ensures.given c.in-Ok-take_at.ensures.given c.note_use.ensures.ends c.note_use.ensures.busy

pub returns-clause-unchanged : goal.returns-clause-unchanged
returns-clause-unchanged c = λ w shows other.
    let inner = subst (Shows w) (sym c.self.view_is) shows in
    absurd (other (free_vacant w _ inner c.args.region c.in-Ok.ensures.given.apart))
