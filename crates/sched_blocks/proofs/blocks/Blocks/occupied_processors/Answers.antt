use Rattle.std.proofs.Common.{sym, subst}
use Rattle.sched_blocks.specs.Shows.{Shows}
use Rattle.sched_blocks.proofs.CountLemmas.{counts_out}
use Rattle.sched_blocks.proofs.blocks.Blocks.occupied_processors.Goals as goal

pub returns : goal.returns
returns c = λ w shows.
    let inner = subst (Shows w) (sym c.self.view_is) shows in
    counts_out w _ inner c.self.inside.out.dim c.held_processors.result c.self.invariant.out_dim c.held_processors.ensures
