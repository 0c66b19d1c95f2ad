-- Queues of waiting slots.
use Rattle.std.specs.Prelude.{◌≡◌, ℕ, ◌+◌, ◌*◌, ◌<◌, ◌≤◌, List, Option, Some, length, slice_index_or}
use Rattle.cube_shape.specs.declared.limits.TheConstants.{MAX_BITMAP_DIM}
use Rattle.alloc_bits.specs.Count.{IsCount}
use Rattle.sched_jobs.specs.declared.nodes.TheConstants.{MAX_SLOTS}
use Rattle.sched_jobs.specs.declared.nodes.QueueNode.{QueueNode as NodeData}
use Rattle.sched_jobs.specs.declared.queues.Queue.{Queue as QueueData}
use Rattle.sched_jobs.specs.Nodes.{estimate_of, key_of}
use Rattle.sched_jobs.specs.Lists.{Has}
use Rattle.sched_jobs.specs.Queues.{IsQueue}
use Rattle.sched_jobs.specs.declared.lines.TheConstants.{CLASSES}
use Rattle.sched_jobs.specs.declared.line_table.LineTable.{LineTable}
use Rattle.sched_jobs.specs.Slots.{line_at}

-- One of the queues.
abbrev pub queue_in : List QueueData → ℕ → QueueData
queue_in queues q = slice_index_or queues q (record { root = 0; front = 0 })

-- A queue has exactly the slots of its line.
pub record IsLine (nodes : List NodeData) (queues : List QueueData) (line : ℕ → Option ℕ) (q : ℕ) : Type 0 where
  pub slots : List ℕ
  pub is_queue : IsQueue nodes (queue_in queues q) slots
  pub only : (u : ℕ) → Has slots u → line u ≡ Some q
  pub all : (u : ℕ) → line u ≡ Some q → Has slots u

-- Each queue has exactly the slots of its line.
pub record AreLines (nodes : List NodeData) (queues : List QueueData) (line : ℕ → Option ℕ) : Type 0 where
  pub limit : length nodes ≤ MAX_SLOTS
  pub each : (q : ℕ) → q < length queues → IsLine nodes queues line q

-- A slot is in a line of the class.
abbrev pub IsOfClass : (ℕ → Option ℕ) → ℕ → ℕ → Type 0
IsOfClass line class u = (dim : ℕ) × (dim ≤ MAX_BITMAP_DIM) × (line u ≡ Some (line_at class dim))

-- The count of a class.
abbrev pub count_in : List ℕ → ℕ → ℕ
count_in counts class = slice_index_or counts class 0

-- There is a queue for each class and dimension, which has the slots of its line. The slots of each
-- class are counted.
pub record ShowsLines (nodes : List NodeData) (queues : List QueueData) (counts : List ℕ) (line : ℕ → Option ℕ) : Type 0 where
  pub lines : AreLines nodes queues line
  pub queues_count : length queues ≡ CLASSES * (MAX_BITMAP_DIM + 1)
  pub counts_count : length counts ≡ CLASSES
  pub counted : (class : ℕ) → class < CLASSES → IsCount (IsOfClass line class) (length nodes) (count_in counts class)

-- The queues of a table have these lines.
abbrev pub HasLines : LineTable → (ℕ → Option ℕ) → Type 0
HasLines lines line = ShowsLines lines.nodes.items lines.queues.items lines.counts.items line

-- The key of a slot: the number of its job, or, if it is free, its link.
abbrev pub key_in : LineTable → ℕ → ℕ
key_in lines u = key_of lines.nodes.items u

-- The rank of the estimate of a slot's job, or, if it is free, its back link.
abbrev pub rank_in : LineTable → ℕ → ℕ
rank_in lines u = estimate_of lines.nodes.items u

-- The number of slots.
abbrev pub slots_of : LineTable → ℕ
slots_of lines = length lines.nodes.items

-- How many words of 8 bytes the queues of this many slots take: the nodes, the queues, the counts.
abbrev pub table_words : ℕ → ℕ
table_words capacity = 5 * capacity + (CLASSES * (MAX_BITMAP_DIM + 1) + CLASSES)
