use Rattle.std.proofs.Common.{sym, subst}
use Rattle.sched_blocks.specs.Shows.{Shows}
use Rattle.sched_blocks.proofs.PartLemmas.{exact_beside, none_beside_at_all}
use Rattle.sched_blocks.proofs.blocks.Blocks.largest_beside.Goals as goal

pub returns-clause-largest : goal.returns-clause-largest
returns-clause-largest c = λ w shows.
    let inner = subst (Shows w) (sym c.self.view_is) shows in
    exact_beside w _ inner c.self.inside.used.dim c.args.avoid c.self.invariant.used_dim c.largest_apart.result c.largest_apart.ensures.dim c.largest_apart.ensures.fits c.largest_apart.ensures.larger

pub returns-clause-none : goal.returns-clause-none
returns-clause-none c = λ w shows.
    let inner = subst (Shows w) (sym c.self.view_is) shows in
    none_beside_at_all w _ inner c.self.inside.used.dim c.args.avoid c.self.invariant.used_dim c.largest_apart.result c.largest_apart.ensures.none
