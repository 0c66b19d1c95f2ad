use Rattle.std.specs.List.{All}
use Rattle.bitmap_tree.specs.Handles.{IsHeldOf}
use Rattle.cube_bench.proofs.regions.ending.release_all.Given as goal

abbrev pub invariant-loop-block : goal.invariant-loop-block
invariant-loop-block l = All (IsHeldOf l.tree) l.blocks.items

abbrev pub decreases-loop-block : goal.decreases-loop-block
decreases-loop-block l = goal.left-loop-block l
