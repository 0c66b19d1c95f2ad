-- The items of a slice of nodes.
use Rattle.std.specs.Prelude.{ℕ, List, slice_index_or}
use Rattle.sched_jobs.specs.declared.nodes.QueueNode.{QueueNode as NodeData}

-- The node of a slot.
abbrev pub node_at : List NodeData → ℕ → NodeData
node_at nodes slot = slice_index_or nodes slot (record { key = 0; estimate = 0; fork = record { least = 0; left = 0; right = 0; size = 0; common = 0 } })

-- The key of a slot's item.
abbrev pub key_of : List NodeData → ℕ → ℕ
key_of nodes slot = (node_at nodes slot).key

-- The estimate of a slot's item.
abbrev pub estimate_of : List NodeData → ℕ → ℕ
estimate_of nodes slot = (node_at nodes slot).estimate
