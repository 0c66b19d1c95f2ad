use Rattle.std.proofs.Common.{◌-◌, ◌^◌}
use Rattle.cube_shape.specs.Region.{block}
use Rattle.cube_shape.specs.Machine.{IsFree}
use Rattle.alloc_bits.specs.Count.{IsCount}
use Rattle.fit_tree.proofs.ValueLemmas.{of_view}
use Rattle.fit_tree.proofs.fit.FitTree.free_blocks.Goals as goal

pub returns : goal.returns
returns c =
    of_view (λ n held. IsCount (λ m. IsFree held (block c.args.k m)) (2 ^ (n - c.args.k)) c.free_blocks.result) c.self.inside.dim c.self.inside.rooms.items c.args.self.now c.self.view_is
    (c.free_blocks.ensures c.self.inside.rooms.items c.self.invariant)
