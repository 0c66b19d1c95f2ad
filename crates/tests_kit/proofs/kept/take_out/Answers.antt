use Rattle.std.proofs.lemmas.List.Elements.{All-same, All-tail}
use Rattle.std.proofs.lemmas.List.Sorted.{All-permutation, IsPermutation-swap_remove}
use Rattle.bitmap_tree.specs.Handles.{IsHeldOf}
use Rattle.tests_kit.proofs.kept.take_out.Goals as goal

pub returns-clause-held : goal.returns-clause-held
returns-clause-held c =
    All-same (IsHeldOf c.args.tree.now) _ _ c.swap_remove.ensures.items
    (All-tail (IsHeldOf c.args.tree.now) _ _
    (All-permutation (IsHeldOf c.args.tree.now) _ _
    (IsPermutation-swap_remove c.args.kept.now.items c.args.at c.swap_remove.result c.requires.at c.swap_remove.ensures.value)
    c.requires.held))
