-- The tree that nodes hold.
use Rattle.std.specs.Prelude.{◌≡◌, ℕ, ◌+◌, ◌*◌, ◌<◌, ◌≤◌, min, List, [], ◌∷◌, ◌++◌, length}
use Rattle.sched_jobs.specs.declared.nodes.TheConstants.{MAX_SLOTS}
use Rattle.sched_jobs.specs.declared.nodes.Fork.{Fork as ForkData}
use Rattle.sched_jobs.specs.declared.nodes.QueueNode.{QueueNode as NodeData}
use Rattle.sched_jobs.specs.Nodes.{estimate_of, key_of, node_at}
use Rattle.sched_jobs.specs.Lists.{Has}

-- An ordered tree: a leaf is the item of a slot.
pub data Tree : Type 0 where
  leaf : ℕ → Tree
  branch : Tree → Tree → Tree

-- The slots of the items, in order.
abbrev pub slots_of : Tree → List ℕ
slots_of (leaf slot) = slot ∷ []
slots_of (branch before after) = slots_of before ++ slots_of after

-- The first of them.
abbrev pub first_of : Tree → ℕ
first_of (leaf slot) = slot
first_of (branch before after) = first_of before

-- The link to a tree. A fork lies in the slot of the first item to its right.
abbrev pub link_of : Tree → ℕ
link_of (leaf slot) = 2 * slot
link_of (branch before after) = 2 * first_of after + 1

-- The number of items.
abbrev pub size_of : Tree → ℕ
size_of (leaf slot) = 1
size_of (branch before after) = size_of before + size_of after

-- The least estimate of an item.
abbrev pub least_of : List NodeData → Tree → ℕ
least_of nodes (leaf slot) = estimate_of nodes slot
least_of nodes (branch before after) = min (least_of nodes before) (least_of nodes after)

-- The fork that lies in a slot.
abbrev pub fork_of : List NodeData → ℕ → ForkData
fork_of nodes slot = (node_at nodes slot).fork

-- Each item of one tree has a lesser key than each of another.
abbrev pub Precedes : List NodeData → Tree → Tree → Type 0
Precedes nodes before after = (u v : ℕ) → Has (slots_of before) u → Has (slots_of after) v
    → key_of nodes u < key_of nodes v

-- A fork joins two trees.
pub record IsJoin (nodes : List NodeData) (found : ForkData) (before after : Tree) : Type 0 where
  pub to_left : found.left ≡ link_of before
  pub to_right : found.right ≡ link_of after
  pub counted : found.size ≡ size_of before + size_of after
  pub lowest : found.least ≡ min (least_of nodes before) (least_of nodes after)
  pub order : Precedes nodes before after

-- The nodes hold a tree.
abbrev pub Holds : List NodeData → Tree → Type 0
Holds nodes (leaf slot) = slot < length nodes
Holds nodes (branch before after) =
    IsJoin nodes (fork_of nodes (first_of after)) before after × Holds nodes before × Holds nodes after

-- The nodes hold a tree at a link.
pub record IsAt (nodes : List NodeData) (link : ℕ) (tree : Tree) : Type 0 where
  pub limit : length nodes ≤ MAX_SLOTS
  pub linked : link ≡ link_of tree
  pub held : Holds nodes tree
