-- Queues, which are lists of slots in order of their keys.
use Rattle.std.specs.Prelude.{◌≡◌, ℕ, ◌<◌, ◌≤◌, ◌⊎◌, List, [], Some, length}
use Rattle.sched_jobs.specs.declared.nodes.TheConstants.{NO_LINK}
use Rattle.sched_jobs.specs.declared.nodes.QueueNode.{QueueNode as NodeData}
use Rattle.sched_jobs.specs.declared.queues.Queue.{Queue as QueueData}
use Rattle.sched_jobs.specs.Nodes.{estimate_of, key_of}
use Rattle.sched_jobs.specs.Lists.{Has, IsRising, first_slot}
use Rattle.sched_jobs.specs.InnerQueue.Tree.{Tree, IsAt, slots_of}

-- The nodes hold a tree of these slots at a link.
pub record HasTree (nodes : List NodeData) (link : ℕ) (slots : List ℕ) : Type 0 where
  pub tree : Tree
  pub found : IsAt nodes link tree
  pub all : slots_of tree ≡ slots

-- A queue in a slice of nodes has these slots, in order of their keys. The nodes of other slots do
-- not matter.
pub record IsQueue (nodes : List NodeData) (queue : QueueData) (slots : List ℕ) : Type 0 where
  pub rising : IsRising nodes slots
  pub inside : (slot : ℕ) → Has slots slot → slot < length nodes
  pub first : (slot : ℕ) → first_slot slots ≡ Some slot → queue.front ≡ slot
  pub shape : ((queue.root ≡ NO_LINK) × (slots ≡ [])) ⊎ HasTree nodes queue.root slots

-- A slot that is none of a queue's can be appended with a key above all keys of the queue.
pub record CanAppend (nodes : List NodeData) (queue : QueueData) (slots : List ℕ) (slot key : ℕ) : Type 0 where
  pub is_queue : IsQueue nodes queue slots
  pub none_of : Has slots slot → ⊥
  pub above : (u : ℕ) → Has slots u → key_of nodes u < key

-- A slot is one of a queue's.
pub record HasItem (nodes : List NodeData) (queue : QueueData) (slots : List ℕ) (slot : ℕ) : Type 0 where
  pub is_queue : IsQueue nodes queue slots
  pub one_of : Has slots slot

-- A slot has the least key among those whose estimate is within a limit.
pub record IsOldestWithin (nodes : List NodeData) (slots : List ℕ) (limit slot : ℕ) : Type 0 where
  pub one_of : Has slots slot
  pub within : estimate_of nodes slot ≤ limit
  pub oldest : (u : ℕ) → Has slots u → key_of nodes u < key_of nodes slot → limit < estimate_of nodes u

-- No slot's estimate is within a limit.
abbrev pub HasNoneWithin : List NodeData → List ℕ → ℕ → Type 0
HasNoneWithin nodes slots limit = (u : ℕ) → Has slots u → limit < estimate_of nodes u
