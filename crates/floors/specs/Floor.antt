-- The identity of an allocator, and a machine in which every block is free.
use Rattle.std.specs.Prelude.{◌≡◌, ℕ, ◌+◌, ◌^◌, ◌<◌, List, length, slice_index}
use Rattle.atomic_table.specs.Seated.{TableId}

-- The identity of an allocator: the tables of its atomic steps, the dimension of its machine and
-- the number of its stations.
pub record FloorId : Type 0 where
  pub tables : List TableId
  pub dim : ℕ
  pub stations : ℕ

-- The words of a machine of dimension `n` in which every block is free. There is one for each node,
-- and it is 0. Word 0 belongs to no node.
pub record IsWhollyFree (n : ℕ) (words : List ℕ) : Type 0 where
  pub count : length words ≡ 2 ^ (n + 1)
  pub nodes : (node : ℕ) → 0 < node → slice_index words node ≡ 0
