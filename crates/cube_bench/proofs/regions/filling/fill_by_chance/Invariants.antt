use Rattle.std.specs.List.{All}
use Rattle.bitmap_tree.specs.Handles.{IsHeldOf}
use Rattle.cube_bench.proofs.regions.filling.fill_by_chance.Given as goal

abbrev pub invariant-loop : goal.invariant-loop
invariant-loop l = All (IsHeldOf l.tree) l.held.items
