-- What contracts say of a tree: the table of its words, and its size.
use Rattle.std.specs.Prelude.{ℕ, List}
use Rattle.atomic_table.specs.Seated.{TableId}
use Rattle.tree_steps.specs.declared.tree.Tree.{Tree}
use Rattle.tree_steps.specs.declared.view.Size.{Size}

-- The identity of the table of a tree's words.
abbrev pub id_of : Tree → TableId
id_of tree = tree.table.shared.table_id

-- The size of a tree: the dimension of its machine and the number of stations.
abbrev pub size_of : Tree → Size
size_of tree = tree.size

-- The dimension of a tree's machine.
abbrev pub dim_of : Tree → ℕ
dim_of tree = (size_of tree).dim

-- The words of a tree as they were last read.
abbrev pub read_words : Tree → List ℕ
read_words tree = tree.room.items

-- The number of stations of a tree.
abbrev pub station_count : Tree → ℕ
station_count tree = (size_of tree).stations
