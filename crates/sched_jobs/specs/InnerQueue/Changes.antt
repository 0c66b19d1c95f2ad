-- What calls write.
use Rattle.std.specs.Prelude.{◌≡◌, ℕ, ◌+◌, ◌/◌, ◌%◌, ◌<◌, ◌==◌, min, List, [], ◌∷◌, ◌++◌, length, if◌then◌else◌}
use Rattle.sched_jobs.specs.declared.nodes.Fork.{Fork as ForkData}
use Rattle.sched_jobs.specs.declared.nodes.QueueNode.{QueueNode as NodeData}
use Rattle.sched_jobs.specs.Nodes.{estimate_of, key_of, node_at}
use Rattle.sched_jobs.specs.Lists.{Has}
use Rattle.sched_jobs.specs.InnerQueue.Tree.{Tree, IsAt, Precedes, first_of, fork_of, least_of, size_of, slots_of}

-- The number of items below a link.
abbrev pub size_at : List NodeData → ℕ → ℕ
size_at nodes link = if link % 2 == 0 then 1 else (fork_of nodes (link / 2)).size

-- The least estimate of an item below a link.
abbrev pub least_at : List NodeData → ℕ → ℕ
least_at nodes link =
    if link % 2 == 0 then estimate_of nodes (link / 2) else (fork_of nodes (link / 2)).least

-- The nodes of all but some slots stay.
pub record HasOthers (old new : List NodeData) (slots : List ℕ) : Type 0 where
  pub same_length : length new ≡ length old
  pub same_nodes : (u : ℕ) → (Has slots u → ⊥) → node_at new u ≡ node_at old u

-- No more than the forks in some slots changed.
pub record KeepsItems (old new : List NodeData) (slots : List ℕ) : Type 0 where
  pub same_length : length new ≡ length old
  pub same_keys : (u : ℕ) → key_of new u ≡ key_of old u
  pub same_estimates : (u : ℕ) → estimate_of new u ≡ estimate_of old u
  pub same_forks : (u : ℕ) → (Has slots u → ⊥) → fork_of new u ≡ fork_of old u

-- The links of two trees that a fork in a slot can join.
pub record IsPair (nodes : List NodeData) (slot left right : ℕ) (before after : Tree) : Type 0 where
  pub first_tree : IsAt nodes left before
  pub second_tree : IsAt nodes right after
  pub order : Precedes nodes before after
  pub place : slot ≡ first_of after

-- A fork lacks the new link to its right, and a slot below this in its size and least estimate.
pub record HasMore (nodes : List NodeData) (place right slot : ℕ) (before after : Tree) : Type 0 where
  pub pair : IsPair nodes place (fork_of nodes place).left right before after
  pub inside : slot < length nodes
  pub counted : (fork_of nodes place).size + 1 ≡ size_of before + size_of after
  pub lowest : min (fork_of nodes place).least (estimate_of nodes slot) ≡ min (least_of nodes before) (least_of nodes after)

-- A fork that has the links of two trees. Its size and its least estimate count one slot more.
pub record HasLess (nodes : List NodeData) (place : ℕ) (fork : ForkData) (slot : ℕ) (before after : Tree) : Type 0 where
  pub pair : IsPair nodes place fork.left fork.right before after
  pub inside : slot < length nodes
  pub counted : fork.size ≡ size_of before + size_of after + 1
  pub lowest : fork.least ≡ min (min (least_of nodes before) (least_of nodes after)) (estimate_of nodes slot)

-- A tree at a link, and a slot whose key is above all keys of the tree.
pub record CanPush (nodes : List NodeData) (link slot : ℕ) (tree : Tree) : Type 0 where
  pub found : IsAt nodes link tree
  pub inside : slot < length nodes
  pub above : (u : ℕ) → Has (slots_of tree) u → key_of nodes u < key_of nodes slot

-- The slot was appended: there is a tree at the new link. The fork in the first slot, which is none
-- of the tree's, stays.
pub record HasPushed (old new : List NodeData) (slot link : ℕ) (tree : Tree) : Type 0 where
  pub made : Tree
  pub found : IsAt new link made
  pub appended : slots_of made ≡ slots_of tree ++ slot ∷ []
  pub rest : KeepsItems old new (slots_of tree ++ slot ∷ [])
  pub head : fork_of new (first_of tree) ≡ fork_of old (first_of tree)

-- A list without a slot.
abbrev pub without : ℕ → List ℕ → List ℕ
without slot [] = []
without slot (first ∷ others) =
    if slot == first then without slot others else (first ∷ without slot others)

-- A fork at a link, and an item below it.
pub record CanRemove (nodes : List NodeData) (link slot : ℕ) (tree : Tree) : Type 0 where
  pub found : IsAt nodes link tree
  pub forked : link % 2 ≡ 1
  pub one_of : Has (slots_of tree) slot

-- The slot was removed: there is a tree at the new link. The fork in the first slot, which is none
-- of the tree's, stays. If the first slot was removed, `next` is the first one of what is left.
pub record HasRemoved (old new : List NodeData) (slot link next : ℕ) (tree : Tree) : Type 0 where
  pub made : Tree
  pub found : IsAt new link made
  pub left_out : slots_of made ≡ without slot (slots_of tree)
  pub rest : KeepsItems old new (slots_of tree)
  pub head : fork_of new (first_of tree) ≡ fork_of old (first_of tree)
  pub second : first_of tree ≡ slot → next ≡ first_of made
