use Rattle.std.proofs.Common.{sym, subst}
use Rattle.sched_blocks.specs.Shows.{Shows}
use Rattle.sched_blocks.proofs.ShowsLemmas.{no_first, some_first}
use Rattle.sched_blocks.proofs.blocks.Blocks.first.Goals as goal

pub returns-clause-first : goal.returns-clause-first
returns-clause-first c = λ w shows.
    let inner = subst (Shows w) (sym c.self.view_is) shows in
    some_first w _ inner c.self.inside.used.dim c.args.k c.self.invariant.used_dim c.first.result c.first.ensures.first

pub returns-clause-none : goal.returns-clause-none
returns-clause-none c = λ w shows.
    let inner = subst (Shows w) (sym c.self.view_is) shows in
    no_first w _ inner c.self.inside.used.dim c.args.k c.self.invariant.used_dim c.first.result c.first.ensures.none
