use Rattle.std.specs.List.{All}
use Rattle.bitmap_tree.specs.Handles.{IsHeldOf}
use Rattle.tests_kit.proofs.kept.release_all.Given as goal

abbrev pub invariant-loop-held : goal.invariant-loop-held
invariant-loop-held l = All (IsHeldOf l.tree) l.kept.items

abbrev pub decreases-loop-held : goal.decreases-loop-held
decreases-loop-held l = goal.left-loop-held l
