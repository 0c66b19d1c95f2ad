use Rattle.std.specs.List.{All}
use Rattle.bitmap_tree.specs.Handles.{IsHeldOf}
use Rattle.cube_bench.proofs.regions.running.deal.Given as goal

abbrev pub invariant-loop : goal.invariant-loop
invariant-loop l = record {
  blocks : All (IsHeldOf l.tree) l.blocks.items;
  dealt : All (IsHeldOf l.tree) l.dealt.items;
}
