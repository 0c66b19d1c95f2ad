-- What the status words of a machine say of its blocks. The nodes at some number of levels below
-- the root name the blocks of one dimension: `2^levels + m` for each `m` below `2^levels`. Source
-- of all definitions: this project.
use Rattle.std.specs.Prelude.{◌≡◌, ◌≢◌, ℕ, zero, suc, ◌+◌, ◌-◌, ◌*◌, ◌/◌, ◌^◌, ◌<◌, ◌≤◌, ◌==◌, Bool, false, not, ◌&&◌, ◌||◌, cond, List, Option, Some, None, slice_index}
use Rattle.std.specs.Int.{bit_at}
use Rattle.cube_shape.specs.Node.{OnPath}
use Rattle.ghost_history.specs.Sums.{below}
use Rattle.status_word.specs.Word.{IsOccupied, use_of}
use Rattle.cube_ledger.specs.declared.regions.Occupancy.{Occupancy}

-- Whether the word of a node is free: no bit of use is set.
abbrev pub is_free_word : List ℕ → ℕ → Bool
is_free_word words node = use_of (slice_index words node) == 0

-- Whether the word of a node is occupied: its bit OCC is set.
abbrev pub is_occupied_word : List ℕ → ℕ → Bool
is_occupied_word words node = bit_at (slice_index words node) 0 == 1

-- Whether one of the next ancestors of a node is occupied, for this number of levels.
unfoldable pub has_occupied_above : List ℕ → ℕ → ℕ → Bool
has_occupied_above words node zero = false
has_occupied_above words node (suc levels) =
    is_occupied_word words (node / 2) || has_occupied_above words (node / 2) levels

-- An ancestor of the node is occupied.
abbrev pub HasOccupiedAncestor : List ℕ → ℕ → Type 0
HasOccupiedAncestor words node =
    (a : ℕ) × OnPath a node × (a ≢ node) × IsOccupied (slice_index words a)

-- Whether the block of a node is free: its word is free, and no ancestor is occupied.
abbrev pub is_free_node : List ℕ → ℕ → ℕ → Bool
is_free_node words node levels =
    is_free_word words node && not (has_occupied_above words node levels)

-- Whether the block of a node is held: its word is occupied, and no ancestor is.
abbrev pub is_held_node : List ℕ → ℕ → ℕ → Bool
is_held_node words node levels =
    is_occupied_word words node && not (has_occupied_above words node levels)

-- The number of nodes of a level that pass the test.
abbrev pub count_of : (ℕ → Bool) → ℕ → ℕ
count_of test levels = below (λ m. cond (test (2 ^ levels + m)) 1 0) (2 ^ levels)

-- The number of free blocks of a level.
abbrev pub free_regions : List ℕ → ℕ → ℕ
free_regions words levels = count_of (λ node. is_free_node words node levels) levels

-- The number of held blocks of a level.
abbrev pub held_regions : List ℕ → ℕ → ℕ
held_regions words levels = count_of (λ node. is_held_node words node levels) levels

-- The number of processors of all held blocks: `2^k` for each one of dimension `k`.
abbrev pub held_processors : ℕ → List ℕ → ℕ
held_processors n words = below (λ k. held_regions words (n - k) * 2 ^ k) (n + 1)

-- The largest dimension at which a count is not 0, or `None` if all are 0.
abbrev pub IsLargestFree : List ℕ → Option ℕ → Type 0
IsLargestFree free (Some k) = (0 < slice_index free k) × ((j : ℕ) → k < j → slice_index free j ≡ 0)
IsLargestFree free None = (j : ℕ) → slice_index free j ≡ 0

-- A machine of dimension `n` in which every block is free.
pub record IsEmptyMachine (n : ℕ) (occupancy : Occupancy) : Type 0 where
  pub free : (k : ℕ) → k ≤ n → slice_index occupancy.free k ≡ 2 ^ (n - k)
  pub held : occupancy.held ≡ 0
  pub largest : occupancy.largest ≡ Some n
