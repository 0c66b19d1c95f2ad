-- The words of a tree, by its size.
use Rattle.std.proofs.Common.{ℕ, ◌+◌, ◌^◌, ◌<◌, sym, subst}
use Rattle.std.proofs.lemmas.Nat.{pow_pos}
use Rattle.cube_shape.specs.Node.{IsInCube}
use Rattle.tree_steps.specs.declared.tree.Tree.{Tree}
use Rattle.tree_steps.specs.declared.view.Size.{Size}
use Rattle.tree_steps.specs.Steps.{Known}
use Rattle.tree_steps.specs.Alone.{AreAllAtRest}
use Rattle.tree_steps.specs.Tree.{dim_of, station_count}

-- each node has a word
pub node_word : (tree : Tree) (node : ℕ)
    → node < 2 ^ (dim_of tree + 1)
    → node < tree.table.shared.table_id.words
node_word tree node below = subst (λ count. node < count) (sym tree.words) below

-- the size that the rule has as its key
pub node_of_key : (tree : Tree) (node : ℕ)
    → IsInCube (dim_of tree) node
    → IsInCube tree.table.shared.key.dim node
node_of_key tree node in_cube = subst (λ (k : Size). IsInCube k.dim node) (sym tree.keyed) in_cube

-- and the roll has one
pub roll_word : (tree : Tree) → 0 < tree.table.shared.table_id.words
roll_word tree = node_word tree 0 (pow_pos (dim_of tree + 1))

-- all stations, by the size that the rule has as its key
pub all_of_key : (tree : Tree) (m : Known)
    → AreAllAtRest (station_count tree) m
    → AreAllAtRest tree.table.shared.key.stations m
all_of_key tree m all = subst (λ (k : Size). AreAllAtRest k.stations m) (sym tree.keyed) all
