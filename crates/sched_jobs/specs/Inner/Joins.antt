-- Changes of lines, and their first slots.
use Rattle.std.specs.Prelude.{◌≡◌, ◌≢◌, ℕ, ◌<◌, ◌≤◌, List, Option, Some, None}
use Rattle.sched_jobs.specs.declared.nodes.QueueNode.{QueueNode as NodeData}
use Rattle.sched_jobs.specs.declared.queues.Queue.{Queue as QueueData}
use Rattle.sched_jobs.specs.Nodes.{estimate_of, key_of}
use Rattle.sched_jobs.specs.declared.line_table.LineTable.{LineTable}
use Rattle.sched_jobs.specs.Lines.{AreLines, HasLines, key_in}

-- A slot in no line may join one, with a key above all keys there.
pub record CanJoin (nodes : List NodeData) (queues : List QueueData) (line : ℕ → Option ℕ) (at slot key : ℕ) : Type 0 where
  pub lines : AreLines nodes queues line
  pub free : line slot ≡ None
  pub above : (u : ℕ) → line u ≡ Some at → key_of nodes u < key

-- A slot in no line may join one, with a key above all keys there.
pub record MayJoin (lines : LineTable) (line : ℕ → Option ℕ) (at slot key : ℕ) : Type 0 where
  pub shown : HasLines lines line
  pub free : line slot ≡ None
  pub above : (u : ℕ) → line u ≡ Some at → key_in lines u < key

-- A slot of a line has a lesser key than all others there.
pub record IsFirstIn (nodes : List NodeData) (line : ℕ → Option ℕ) (at slot : ℕ) : Type 0 where
  pub one_of : line slot ≡ Some at
  pub first : (u : ℕ) → line u ≡ Some at → u ≢ slot → key_of nodes slot < key_of nodes u

-- A slot of a line has the least key among those with an estimate of at most a limit.
pub record IsFirstWithin (nodes : List NodeData) (line : ℕ → Option ℕ) (at limit slot : ℕ) : Type 0 where
  pub one_of : line slot ≡ Some at
  pub within : estimate_of nodes slot ≤ limit
  pub first : (u : ℕ) → line u ≡ Some at → key_of nodes u < key_of nodes slot → limit < estimate_of nodes u
