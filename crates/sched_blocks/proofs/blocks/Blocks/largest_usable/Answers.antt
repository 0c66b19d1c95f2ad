use Rattle.std.proofs.Common.{sym, subst}
use Rattle.sched_blocks.specs.Shows.{Shows}
use Rattle.sched_blocks.proofs.ShowsLemmas.{exact_usable, none_usable_at_all}
use Rattle.sched_blocks.proofs.blocks.Blocks.largest_usable.Goals as goal

pub returns-in_default-clause-none : goal.returns-in_default-clause-none
returns-in_default-clause-none c = λ w shows.
    let inner = subst (Shows w) (sym c.self.view_is) shows in
    none_usable_at_all w _ inner c.self.inside.out.dim c.self.invariant.out_dim c.in_default.ensures.none

pub returns-clause-largest : goal.returns-clause-largest
returns-clause-largest c = λ w shows.
    let inner = subst (Shows w) (sym c.self.view_is) shows in
    exact_usable w _ inner c.self.inside.out.dim c.self.invariant.out_dim c.in-Some.k c.in-Some-first.region c.in-Some-first.ensures.aligned c.in-Some-first.ensures.first c.in-Some.ensures.larger
