use Rattle.std.proofs.Common.{sym, subst}
use Rattle.sched_blocks.specs.Shows.{Shows}
use Rattle.sched_blocks.proofs.ShowsLemmas.{exact_vacant, none_vacant_at_all}
use Rattle.sched_blocks.proofs.blocks.Blocks.largest_vacant.Goals as goal

pub returns-clause-largest : goal.returns-clause-largest
returns-clause-largest c = λ w shows.
    let inner = subst (Shows w) (sym c.self.view_is) shows in
    exact_vacant w _ inner c.self.inside.used.dim c.self.invariant.used_dim c.largest_free.result c.largest_free.ensures.dim c.largest_free.ensures.fits c.largest_free.ensures.larger

pub returns-clause-none : goal.returns-clause-none
returns-clause-none c = λ w shows.
    let inner = subst (Shows w) (sym c.self.view_is) shows in
    none_vacant_at_all w _ inner c.self.inside.used.dim c.self.invariant.used_dim c.largest_free.result c.largest_free.ensures.none
