use Rattle.std.proofs.Common.{◌∷◌}
use Rattle.std.specs.List.{swap_remove}
use Rattle.std.proofs.lemmas.List.Elements.{All-same, All-tail}
use Rattle.std.proofs.lemmas.List.Sorted.{All-permutation, IsPermutation-swap_remove}
use Rattle.bitmap_tree.specs.Handles.{IsHeldOf}
use Rattle.cube_bench.proofs.regions.lanes.swap_remove.Goals as goal

pub returns-clause-blocks : goal.returns-clause-blocks
returns-clause-blocks c =
    let held = IsHeldOf c.args.tree.now in
    let blocks = c.args.blocks.now.items in
    let block = c.swap_remove.result in
    let rest = swap_remove blocks c.args.index block in
    All-same held c.swap_remove.new.self.items rest c.swap_remove.ensures.items
    (All-tail held block rest
    (All-permutation held blocks (block ∷ rest)
    (IsPermutation-swap_remove blocks c.args.index block c.requires.index c.swap_remove.ensures.value)
    c.requires.blocks))
