use Rattle.std.proofs.Common.{◌^◌, sym, subst}
use Rattle.cube_shape.specs.Falling.{IsHeld}
use Rattle.alloc_bits.specs.Count.{IsCount}
use Rattle.sched_law.specs.State.{held}
use Rattle.sched_blocks.specs.Shows.{Shows}
use Rattle.sched_blocks.proofs.CountLemmas.{counts_held}
use Rattle.sched_blocks.proofs.blocks.Blocks.held_processors.Goals as goal

pub returns : goal.returns
returns c = λ w shows.
    let inner = subst (Shows w) (sym c.self.view_is) shows in
    subst (λ x. IsCount (IsHeld (held w)) (2 ^ w.dim) x) (sym c.saturating_sub.ensures)
    (counts_held w _ inner c.self.inside.used.dim c.self.inside.out.dim c.held_processors.result c.held_processors-out.result c.self.invariant.used_dim c.self.invariant.out_dim c.held_processors.ensures c.held_processors-out.ensures)
