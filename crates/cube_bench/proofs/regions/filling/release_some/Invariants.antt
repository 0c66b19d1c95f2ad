use Rattle.std.specs.List.{All}
use Rattle.bitmap_tree.specs.Handles.{IsHeldOf}
use Rattle.cube_bench.proofs.regions.filling.release_some.Given as goal

abbrev pub invariant-loop-index : goal.invariant-loop-index
invariant-loop-index l = All (IsHeldOf l.tree) l.held.items
